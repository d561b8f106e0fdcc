-- What makes a list of actions a response: how many there are, and how many names. The project's own.
use Rattle.std.specs.Prelude.{ℕ, Bool, ◌+◌, ◌*◌, ◌<◌, ◌≤◌, ◌==◌, nat_lt, List, [], ◌∷◌, length, sum_by, Option}
use Rattle.pm_model.specs.Results.{first_of}
use Rattle.pm_model.specs.declared.actions.Term.{Term}
use Rattle.pm_model.specs.declared.actions.ProcessTerm.{ProcessTerm}
use Rattle.pm_model.specs.declared.actions.ProcessTerm.TheVariants.{Number, EventProcess}
use Rattle.pm_model.specs.declared.actions.Act.{Act}
use Rattle.pm_model.specs.declared.actions.Act.TheVariants as act
use Rattle.pm_model.specs.declared.actions.Action.{Action}
use Rattle.pm_model.specs.declared.obligations.ResponseError.{ResponseError}
use Rattle.pm_model.specs.declared.obligations.ResponseError.TheVariants.{NoActions, TooManyActions, TooManyNames}
use Rattle.pm_model.specs.declared.prohibitions.Subject.{Subject}
use Rattle.pm_model.specs.declared.prohibitions.Subject.TheVariants.{User, Ua, Process}

-- each name and each word for one counts each time that it stands there; a process's number is none
abbrev pub names_in_subject : Subject Term ProcessTerm → ℕ
names_in_subject (User name) = 1
names_in_subject (Ua name) = 1
names_in_subject (Process (Number n)) = 0
names_in_subject (Process EventProcess) = 1

abbrev pub names_in_act : Act → ℕ
names_in_act (act.Create kind name into) = 2
names_in_act (act.Delete name) = 1
names_in_act (act.Assign from to) = 2
names_in_act (act.Deassign from to) = 2
names_in_act (act.Associate ua rights at) = 2 + length rights
names_in_act (act.Dissociate ua at) = 2
names_in_act (act.Prohibit name subject rights inc exc mode) =
    1 + names_in_subject subject + length rights + length inc + length exc
names_in_act (act.Lift name) = 1

-- a guard has two
abbrev pub names_in_action : Action → ℕ
names_in_action a = 2 * length a.guards + names_in_act a.act

abbrev pub names_in_actions : List Action → ℕ
names_in_actions actions = sum_by names_in_action actions

abbrev pub max_actions : ℕ
max_actions = 32

abbrev pub max_names : ℕ
max_names = 100

-- why a list of actions is no response: tests in order
abbrev pub response_checks : List Action → List (Bool × ResponseError)
response_checks actions =
    (length actions == 0, NoActions)
    ∷ (nat_lt max_actions (length actions), TooManyActions)
    ∷ (nat_lt max_names (names_in_actions actions), TooManyNames) ∷ []

abbrev pub response_refusal : List Action → Option ResponseError
response_refusal actions = first_of (response_checks actions)

-- what each response keeps
pub record IsResponse (actions : List Action) : Type 0 where
  pub some : 0 < length actions
  pub few : length actions ≤ max_actions
  pub few_names : names_in_actions actions ≤ max_names
