-- Responses: what stands for a name becomes the name, the guards are asked, and the commands take their effect, each by
-- the authority of the obligation's author. Source: the standard's responses to events; the words for names, the guards
-- and that the first refusal stops all are the project's own.
use Rattle.std.specs.Prelude.{ℕ, Bool, true, not, ◌+◌, ◌++◌, if◌then◌else◌, List, [], ◌∷◌, map, codes, decimal, None, Result, Ok, Err}
use Rattle.pm_model.specs.Results.{and_then}
use Rattle.pm_model.specs.State.{Graph}
use Rattle.pm_model.specs.Containment.{contained}
use Rattle.pm_model.specs.Resolve.{look_up_both}
use Rattle.pm_model.specs.Authority.{ruling}
use Rattle.pm_model.specs.Effect.{effect}
use Rattle.pm_model.specs.declared.events.EventNames.{EventNames}
use Rattle.pm_model.specs.declared.actions.Term.{Term}
use Rattle.pm_model.specs.declared.actions.Term.TheVariants.{Named, EventUser, EventTarget, Fresh}
use Rattle.pm_model.specs.declared.actions.ProcessTerm.{ProcessTerm}
use Rattle.pm_model.specs.declared.actions.ProcessTerm.TheVariants.{Number, EventProcess}
use Rattle.pm_model.specs.declared.actions.Guard.{Guard}
use Rattle.pm_model.specs.declared.actions.Act.{Act}
use Rattle.pm_model.specs.declared.actions.Act.TheVariants as act
use Rattle.pm_model.specs.declared.actions.Action.{Action}
use Rattle.pm_model.specs.declared.obligations.Obligation.{Obligation}
use Rattle.pm_model.specs.declared.obligations.Place.{Place}
use Rattle.pm_model.specs.declared.prohibitions.Subject.{Subject}
use Rattle.pm_model.specs.declared.prohibitions.Subject.TheVariants.{User, Ua, Process}
use Rattle.pm_model.specs.declared.requests.Command.{Command}
use Rattle.pm_model.specs.declared.requests.Command.TheVariants as command
use Rattle.pm_model.specs.declared.replies.Refusal.{Refusal}

-- ---- substitution

-- `x`, the version, the obligation's place and the action's number, with a dot between two
abbrev pub fresh_name : Place → ℕ → List ℕ
fresh_name place version = codes "x" ++ decimal version ++ codes "." ++ decimal place.obligation ++ codes "." ++ decimal place.action

abbrev pub process_of : EventNames → ProcessTerm → ℕ
process_of names (Number n) = n
process_of names EventProcess = names.process

-- what the words for names mean: the event's names, and the name that is new
module _ (names : EventNames) (fresh : List ℕ) where
  abbrev pub name_of : Term → List ℕ
  name_of (Named name) = name
  name_of EventUser = names.user
  name_of EventTarget = names.target
  name_of Fresh = fresh

  abbrev pub subject_of : Subject Term ProcessTerm → Subject (List ℕ) ℕ
  subject_of (User name) = User (name_of name)
  subject_of (Ua name) = Ua (name_of name)
  subject_of (Process process) = Process (process_of names process)

  abbrev pub command_of : Act → Command
  command_of (act.Create kind name into) = command.Create kind (name_of name) (name_of into)
  command_of (act.Delete name) = command.Delete (name_of name)
  command_of (act.Assign from to) = command.Assign (name_of from) (name_of to)
  command_of (act.Deassign from to) = command.Deassign (name_of from) (name_of to)
  command_of (act.Associate ua rights at) = command.Associate (name_of ua) rights (name_of at)
  command_of (act.Dissociate ua at) = command.Dissociate (name_of ua) (name_of at)
  command_of (act.Prohibit name subject rights inc exc mode) =
      command.Prohibit (name_of name) (subject_of subject) rights (map name_of inc) (map name_of exc) mode
  command_of (act.Lift name) = command.Lift name

-- the command that an act comes to
abbrev pub bound : EventNames → Place → ℕ → Act → Command
bound names place version act = command_of names (fresh_name place version) act

-- ---- what a response does

-- why it stopped: the obligation's name, the action's number and its refusal
pub record Stopped : Type 0 where
  pub obligation : List ℕ
  pub action : ℕ
  pub why : Refusal

-- whether the inner element is in the outer one, or isn't, as the guard says; their names are looked up in this order
abbrev pub holds : Graph → EventNames → List ℕ → Guard → Result Bool Refusal
holds G names fresh guard =
    and_then (look_up_both G (name_of names fresh guard.inner) (name_of names fresh guard.outer)) (λ pair.
    Ok (if guard.within then contained G.assigned pair.0 pair.1 else not (contained G.assigned pair.0 pair.1)))

-- in order; behind a guard that fails none is asked
abbrev pub all_hold : Graph → EventNames → List ℕ → List Guard → Result Bool Refusal
all_hold G names fresh [] = Ok true
all_hold G names fresh (guard ∷ guards) =
    and_then (holds G names fresh guard) (λ yes. if yes then all_hold G names fresh guards else Ok yes)

-- the command takes its effect, where the user may give it; no process gives it
abbrev pub commanded : Graph → ℕ → Command → Result Graph Refusal
commanded G author command = and_then (ruling G author None command) (effect G)

-- the event's names, and the version that the entry will have
module _ (names : EventNames) (version : ℕ) where
  -- the action is skipped where a guard fails
  abbrev pub acted : Graph → ℕ → Place → Action → Result Graph Refusal
  acted G author place action =
      and_then (all_hold G names (fresh_name place version) action.guards) (λ yes.
      if yes then commanded G author (bound names place version action.act) else Ok G)

  abbrev pub or_stopped : Obligation → ℕ → Result Graph Refusal → Result Graph Stopped
  or_stopped o number (Ok G) = Ok G
  or_stopped o number (Err why) = Err (record { obligation = o.name; action = number; why = why })

  -- the obligation's actions from this number on, one after another
  abbrev pub response_from : Obligation → ℕ → ℕ → Graph → List Action → Result Graph Stopped
  response_from o place number G [] = Ok G
  response_from o place number G (action ∷ actions) =
      and_then (or_stopped o number (acted G o.author (record { obligation = place; action = number }) action)) (λ next.
      response_from o place (number + 1) next actions)

  -- the responses of these obligations, the first of which has this place among those that match
  abbrev pub responses_from : ℕ → Graph → List Obligation → Result Graph Stopped
  responses_from place G [] = Ok G
  responses_from place G (o ∷ obligations) =
      and_then (response_from o place 1 G o.response) (λ next. responses_from (place + 1) next obligations)

  -- from the graph after the request's own effect; the obligations are those that match its event
  abbrev pub responses : Graph → List Obligation → Result Graph Stopped
  responses G obligations = responses_from 1 G obligations
