-- What an error tells of the definition's result, and of the graph that it leaves.
use Rattle.std.specs.Prelude.{◌≡◌, ◌⊎◌, Bool, true, false, Result, Ok, Err}
use Rattle.pm_model.specs.State.{Graph}
use Rattle.pm_model.specs.Responses.{Stopped}
use Rattle.pm_model.specs.declared.replies.Refusal.{Refusal}
use Rattle.pm_runner.specs.declared.errors.ActError.{ActError}
use Rattle.pm_runner.specs.declared.errors.ActError.TheVariants as act
use Rattle.pm_runner.specs.declared.errors.RunError.{RunError}
use Rattle.pm_runner.specs.declared.errors.RunError.TheVariants as run

-- the action is refused for this reason; want of memory tells nothing
abbrev pub IsRefusal : Result Graph Refusal → ActError → Type 0
IsRefusal result (act.Refused why) = result ≡ Err why
IsRefusal result act.Memory = Unit {0}

-- the responses stop at this action, for this reason; want of memory tells nothing
abbrev pub IsStop : Result Graph Stopped → RunError → Type 0
IsStop result (run.ResponseRefused obligation action why) =
    result ≡ Err (record { obligation = obligation; action = action; why = why })
IsStop result run.Memory = Unit {0}

-- a result that tells want of memory, of an action or of a run
abbrev pub wants_memory : {A : Type 0} → Result A ActError → Bool
wants_memory (Err act.Memory) = true
wants_memory _ = false

abbrev pub run_wants_memory : {A : Type 0} → Result A RunError → Bool
run_wants_memory (Err run.Memory) = true
run_wants_memory _ = false

-- of G and H before and behind, and what is to come of G: nothing is done, or all of it
abbrev pub MayBeDone : {E : Type 0} → Graph → Graph → Result Graph E → Type 0
MayBeDone G H came = (H ≡ G) ⊎ (came ≡ Ok H)

-- what is left after an error: where the action is refused the graph is as before, and after want of memory it may be done
abbrev pub IsLeft : Graph → Graph → Result Graph Refusal → ActError → Type 0
IsLeft G H acted (act.Refused why) = H ≡ G
IsLeft G H acted act.Memory = MayBeDone G H acted
