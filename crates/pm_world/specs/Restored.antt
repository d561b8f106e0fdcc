-- A history that was kept, and what the world does to have it again. The project's own.
use Rattle.std.specs.Prelude.{ℕ, zero, suc, ◌≡◌, ◌+◌, ◌<◌, List, [], ◌∷◌, ◌++◌, length, map, None, IsSome}
use Rattle.pm_model.specs.Answer.{answer}
use Rattle.pm_model.specs.History.{replay}
use Rattle.pm_model.specs.declared.requests.Entry.{Entry}
use Rattle.pm_world.specs.Seats.{count_by_seat}
use Rattle.pm_world.specs.Worlds.{World, Step, looks, accepts}

-- an entry that a house of so many seats makes behind these: the machine accepts it there, its seat is one of them, and its
-- number is one more than that seat's entries before it
pub record IsNext (seats : ℕ) (before : List Entry) (e : Entry) : Type 0 where
  pub seat : e.seat < seats
  pub number : e.nth ≡ count_by_seat e.seat before + 1
  pub accepted : IsSome (answer (replay before) e.request).next

-- each entry is such a one in its place
abbrev pub AreNext : ℕ → List Entry → List Entry → Type 0
AreNext seats before [] = Unit {0}
AreNext seats before (e ∷ es) = IsNext seats before e × AreNext seats (before ++ e ∷ []) es

-- a history that a house of so many seats can have made
abbrev pub IsMade : ℕ → List Entry → Type 0
IsMade seats history = AreNext seats [] history

-- ---- the steps by which the world comes to it

abbrev pub accepts_of : Entry → Step
accepts_of e = accepts e.seat e.request

-- each seat below n looks at the log of this length
abbrev pub looks_below : ℕ → ℕ → List Step
looks_below zero length_now = []
looks_below (suc n) length_now = looks n None length_now ∷ looks_below n length_now

abbrev pub restoring : ℕ → List Entry → List Step
restoring seats history = map accepts_of history ++ looks_below seats (length history)

-- the world then has this log, and each seat has seen all of it
pub record IsRestored (seats : ℕ) (history : List Entry) (w : World) : Type 0 where
  pub log : w.log ≡ history
  pub fronts : (s : ℕ) → s < seats → w.front s ≡ history
