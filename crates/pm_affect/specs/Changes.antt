-- The changes that a request makes, one after another: its own and those of the responses to its event. Source: the
-- standard's event processing, by which a response is carried out as commands of the obligation's author; each change with
-- the graph from which it is made is the project's own.
use Rattle.std.specs.Prelude.{ℕ, ◌+◌, if◌then◌else◌, List, [], ◌∷◌, ◌++◌, Option, None, Some, Result, Ok, Err}
use Rattle.pm_model.specs.State.{State, Graph}
use Rattle.pm_model.specs.Effect.{effect}
use Rattle.pm_model.specs.Events.{event, names_in, obliging, raised, responders}
use Rattle.pm_model.specs.Authority.{ruling}
use Rattle.pm_model.specs.Resolve.{look_up}
use Rattle.pm_model.specs.Responses.{acted, all_hold, bound, fresh_name, response_from}
use Rattle.pm_model.specs.Answer.{accessed, acting, is_ahead}
use Rattle.pm_model.specs.declared.events.Event.{Event}
use Rattle.pm_model.specs.declared.events.EventNames.{EventNames}
use Rattle.pm_model.specs.declared.actions.Action.{Action}
use Rattle.pm_model.specs.declared.obligations.Obligation.{Obligation}
use Rattle.pm_model.specs.declared.obligations.Place.{Place}
use Rattle.pm_model.specs.declared.requests.Body.{Body}
use Rattle.pm_model.specs.declared.requests.Body.TheVariants.{OpenSession, CloseSession, StartProcess, EndProcess, Access, Admin}
use Rattle.pm_model.specs.declared.requests.Change.{Change}
use Rattle.pm_model.specs.declared.requests.Change.TheVariants as change
use Rattle.pm_model.specs.declared.requests.Command.{Command}
use Rattle.pm_model.specs.declared.requests.Request.{Request}

-- a change, and the graph from which it is made
abbrev pub Turn : Type 0
Turn = Graph × Change

-- the changes of what comes, and none where it is refused
abbrev pub changes_on : {A E : Type 0} → Result A E → (A → List Turn) → List Turn
changes_on (Ok a) changes = changes a
changes_on (Err why) changes = []

-- ---- responses

abbrev pub changes_commanded : Graph → ℕ → Command → List Turn
changes_commanded G author command = changes_on (ruling G author None command) (λ c. (G, c) ∷ [])

module _ (names : EventNames) (version : ℕ) where
  -- none where a guard fails
  abbrev pub changes_acted : Graph → ℕ → Place → Action → List Turn
  changes_acted G author place action =
      changes_on (all_hold G names (fresh_name place version) action.guards) (λ yes.
      if yes then changes_commanded G author (bound names place version action.act) else [])

  -- each action from the graph that those before it leave
  abbrev pub changes_response_from : Obligation → ℕ → ℕ → Graph → List Action → List Turn
  changes_response_from o place number G [] = []
  changes_response_from o place number G (action ∷ actions) =
      changes_acted G o.author (record { obligation = place; action = number }) action
      ++ changes_on (acted names version G o.author (record { obligation = place; action = number }) action) (λ next.
      changes_response_from o place (number + 1) next actions)

  abbrev pub changes_responses_from : ℕ → Graph → List Obligation → List Turn
  changes_responses_from place G [] = []
  changes_responses_from place G (o ∷ obligations) =
      changes_response_from o place 1 G o.response
      ++ changes_on (response_from names version o place 1 G o.response) (λ next. changes_responses_from (place + 1) next obligations)

-- ---- an entry

abbrev pub changes_responded : State → Option Event → List Obligation → Graph → List Turn
changes_responded S None obligations G = []
changes_responded S (Some e) obligations G = changes_responses_from (names_in S.graph e) (S.version + 1) 1 G obligations

-- the change, and then those of the responses to its event
abbrev pub changes_entered : State → Option Event → Change → List Turn
changes_entered S e change =
    (S.graph, change)
    ∷ changes_on (effect S.graph change) (λ G. changes_responded S e (responders S.graph (obliging S.graph change) e) G)

abbrev pub changes_granted : State → Event → List Turn
changes_granted S e = changes_responded S (Some e) (responders S.graph S.graph.obligations (Some e)) S.graph

abbrev pub changes_by_body : State → Body → List Turn
changes_by_body S (OpenSession user) = changes_on (look_up S.graph user) (λ u. changes_entered S None (change.OpenSession u))
changes_by_body S (CloseSession session) = changes_entered S None (change.CloseSession session)
changes_by_body S (StartProcess session) = changes_entered S None (change.StartProcess session)
changes_by_body S (EndProcess process) = changes_entered S None (change.EndProcess process)
changes_by_body S (Access q right target) =
    changes_on (acting S.graph q) (λ u. changes_on (accessed S.graph u q right target) (λ t. changes_granted S (event u q right t)))
changes_by_body S (Admin q command) =
    changes_on (acting S.graph q) (λ u. changes_on (ruling S.graph u (Some q) command) (λ c. changes_entered S (raised S.graph u q c) c))
changes_by_body S _ = []

abbrev pub changes_by : State → Request → List Turn
changes_by S request = if is_ahead request.after S.version then [] else changes_by_body S request.body
