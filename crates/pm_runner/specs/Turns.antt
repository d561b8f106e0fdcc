-- The responses on one occasion, an action at a time.
use Rattle.std.specs.Prelude.{◌≡◌, ℕ, ◌+◌, ◌-◌, ◌<◌, List, take, Option, None, Some, option_map, slice_get, Result, Ok}
use Rattle.std.specs.Option.{option_and_then}
use Rattle.pm_model.specs.Results.{and_then}
use Rattle.pm_model.specs.State.{Graph}
use Rattle.pm_model.specs.Responses.{Stopped, acted, or_stopped, response_from, responses}
use Rattle.pm_model.specs.declared.events.EventNames.{EventNames}
use Rattle.pm_model.specs.declared.actions.Action.{Action}
use Rattle.pm_model.specs.declared.obligations.Obligation.{Obligation}
use Rattle.pm_model.specs.declared.obligations.Place.{Place}
use Rattle.pm_model.specs.declared.replies.Refusal.{Refusal}
use Rattle.pm_affect.specs.Counting.{Work, work_acted, work_response_from, work_responses}

-- what is responded to: the event's names, the version that the entry will have, the obligations that match, in order
pub record Occasion : Type 0 where
  pub names : EventNames
  pub version : ℕ
  pub obligations : List Obligation

-- what the responses of these obligations make of a graph, where they are the first that match
abbrev pub responded_by : Occasion → Graph → List Obligation → Result Graph Stopped
responded_by occasion G obligations = responses occasion.names occasion.version G obligations

-- what all responses make of a graph
abbrev pub responded : Occasion → Graph → Result Graph Stopped
responded occasion G = responded_by occasion G occasion.obligations

-- what these actions of an obligation make of a graph, where they are its first; its place counts from 1
abbrev pub obliged : Occasion → Obligation → ℕ → Graph → List Action → Result Graph Stopped
obliged occasion o place G actions = response_from occasion.names occasion.version o place 1 G actions

-- ---- one action

-- the obligation and the action at a place
abbrev pub standing : List Obligation → Place → Option (Obligation × Action)
standing obligations place =
    option_and_then (λ (o : Obligation). option_map (λ a. (o, a)) (slice_get o.response (place.action - 1)))
    (slice_get obligations (place.obligation - 1))

abbrev pub acted_by : Occasion → Graph → Place → Option (Obligation × Action) → Result Graph Refusal
acted_by occasion G place None = Ok G
acted_by occasion G place (Some (o, a)) = acted occasion.names occasion.version G o.author place a

-- what the action at a place makes of a graph
abbrev pub acted_at : Occasion → Graph → Place → Result Graph Refusal
acted_at occasion G place = acted_by occasion G place (standing occasion.obligations place)

-- what the actions before a place make of a graph, those of the obligations before and then those of its own
abbrev pub acted_before : Occasion → Graph → Place → Obligation → Result Graph Stopped
acted_before occasion G place o =
    and_then (responded_by occasion G (take (place.obligation - 1) occasion.obligations)) (λ between.
    obliged occasion o place.obligation between (take (place.action - 1) o.response))

-- the turn of the action at a place: the graph is what the actions before it have made of some graph
pub record IsTurn (occasion : Occasion) (G : Graph) (place : Place) : Type 0 where
  pub obligation : Obligation
  pub action : Action
  pub from_one : (0 < place.obligation) × (0 < place.action)
  pub stands : standing occasion.obligations place ≡ Some (obligation, action)
  pub start : Graph
  pub made : acted_before occasion start place obligation ≡ Ok G

-- ---- one obligation

-- the turn of the obligation at a place from 0: the graph is what the responses before it have made of some graph
pub record IsDue (occasion : Occasion) (G : Graph) (index : ℕ) (o : Obligation) : Type 0 where
  pub stands : slice_get occasion.obligations index ≡ Some o
  pub start : Graph
  pub made : responded_by occasion start (take index occasion.obligations) ≡ Ok G

-- what the action at a place of an obligation makes of a graph, told with the obligation and the number where it is refused
abbrev pub acted_or_stopped : Occasion → Graph → Place → Obligation → Result Graph Stopped
acted_or_stopped occasion G place o = or_stopped occasion.names occasion.version o place.action (acted_at occasion G place)

-- ---- a part of the responses

-- the first actions of the obligation at a place from 0, in order, have made H of G, and no others
pub record IsPartOf (occasion : Occasion) (o : Obligation) (index : ℕ) (G H : Graph) : Type 0 where
  pub count : ℕ
  pub made : obliged occasion o (index + 1) G (take count o.response) ≡ Ok H

-- the first actions of all, in order, have made H of G, and no others: those before a place of an obligation that responds
pub record IsPartway (occasion : Occasion) (G H : Graph) : Type 0 where
  pub obligation : Obligation
  pub place : Place
  pub from_one : (0 < place.obligation) × (0 < place.action)
  pub stands : slice_get occasion.obligations (place.obligation - 1) ≡ Some obligation
  pub made : acted_before occasion G place obligation ≡ Ok H

-- ---- how much work they are

module _ (w : Work) (occasion : Occasion) where
  -- the responses of these obligations, where they are the first that match
  abbrev pub work_responded_by : Graph → List Obligation → ℕ
  work_responded_by G obligations = work_responses w occasion.names occasion.version G obligations

  -- all responses
  abbrev pub work_responded : Graph → ℕ
  work_responded G = work_responded_by G occasion.obligations

  -- these actions of an obligation, where they are its first; its place counts from 1
  abbrev pub work_obliged : Obligation → ℕ → Graph → List Action → ℕ
  work_obliged o place G actions = work_response_from w occasion.names occasion.version o place 1 G actions

  abbrev pub work_acted_by : Graph → Place → Option (Obligation × Action) → ℕ
  work_acted_by G place None = 0
  work_acted_by G place (Some (o, a)) = work_acted w occasion.names occasion.version G o.author place a

  -- the action at a place
  abbrev pub work_acted_at : Graph → Place → ℕ
  work_acted_at G place = work_acted_by G place (standing occasion.obligations place)
