-- What contracts see of a draft.
use Rattle.std.specs.Prelude.{ℕ, Bool, List, Option, None, Some}
use Rattle.pm_model.specs.History.{Machine}
use Rattle.pm_model.specs.State.{Graph}
use Rattle.pm_model.specs.declared.requests.Entry.{Entry}
use Rattle.pm_affect.specs.Counting.{Work, Judged, Written}
use Rattle.pm_affect.specs.Lists.{Lists}

-- a graph, the history that it began from, how many rights were judged for kept reviews and how many rows were written, each up
-- to 2 ^ 64 - 1, and whether it has the lists of kept reviews still
pub record Drafted : Type 0 where
  pub graph : Graph
  pub history : List Entry
  pub asked : ℕ
  pub written : ℕ
  pub whole : Bool

-- how much work it and the history are
abbrev pub done_in : Drafted → Work → ℕ
done_in d Judged = d.asked
done_in d Written = d.written

-- what of it is to be a state
abbrev pub machine_in : Drafted → Machine
machine_in d = record { graph = d.graph; history = d.history }

-- how many its lists tell; nothing is claimed where it has none
abbrev pub asked_of : Option Lists → ℕ
asked_of None = 0
asked_of (Some L) = L.asked
