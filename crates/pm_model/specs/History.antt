-- Histories: lists of accepted requests, and what the machine is by them. The project's own.
use Rattle.std.specs.Prelude.{◌≡◌, ◌+◌, List, [], ◌∷◌, length, IsSome, Some}
use Rattle.pm_model.specs.State.{State, Graph, opening}
use Rattle.pm_model.specs.Answer.{answer, after, proposed}
use Rattle.pm_model.specs.declared.requests.Request.{Request}
use Rattle.pm_model.specs.declared.requests.Entry.{Entry}

-- a graph, and the history that led to it
pub record Machine : Type 0 where
  pub graph : Graph
  pub history : List Entry

-- its state: the version is the number of entries
abbrev pub state_of : Machine → State
state_of M = record { graph = M.graph; version = length M.history }

-- the machine before any request
abbrev pub opening_machine : Machine
opening_machine = record { graph = opening.graph; history = [] }

-- the state once the machine has answered these requests, from this state on
abbrev pub replay_from : State → List Entry → State
replay_from S [] = S
replay_from S (entry ∷ entries) = replay_from (after S (answer S entry.request)) entries

abbrev pub replay : List Entry → State
replay entries = replay_from opening entries

-- each request is accepted in its place
abbrev pub IsLegalFrom : State → List Entry → Type 0
IsLegalFrom S [] = Unit {0}
IsLegalFrom S (entry ∷ entries) = IsSome (answer S entry.request).next × IsLegalFrom (after S (answer S entry.request)) entries

abbrev pub IsLegal : List Entry → Type 0
IsLegal entries = IsLegalFrom opening entries

-- the history is legal, and the state is its replay
pub record IsReplayed (M : Machine) : Type 0 where
  pub legal : IsLegal M.history
  pub content : replay M.history ≡ state_of M

-- the graph is what the answer to the request makes after this history, or would make but for a full history
abbrev pub IsAnswered : Machine → Request → Type 0
IsAnswered M request = (proposed (replay M.history) request).next ≡ Some (record { graph = M.graph; version = length M.history + 1 })
