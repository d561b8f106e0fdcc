-- A house that begins with a history: with none, or with one that was kept. The project's own.
use Rattle.std.specs.Prelude.{ℕ, ◌≡◌, ◌<◌, Bool, true, false, List, [], ◌∷◌, ◌++◌, length, take, Some, IsSome, slice_get, slice_index}
use Rattle.pm_model.specs.Answer.{answer}
use Rattle.pm_model.specs.History.{Machine, replay}
use Rattle.pm_model.specs.declared.requests.Entry.{Entry}
use Rattle.pm_world.specs.Seats.{count_by_seat}
use Rattle.pm_world.specs.Restored.{IsNext, IsMade}
use Rattle.pm_house.specs.Lanes.{Laned, lane}
use Rattle.pm_house.specs.declared.restored.RestoreError.{RestoreError}
use Rattle.pm_house.specs.declared.restored.RestoreError.TheVariants as refused

-- the machine whose history these entries are
abbrev pub machine_of : List Entry → Machine
machine_of entries = record { graph = (replay entries).graph; history = entries }

-- each lane stands at its number, with as many entries as the history has of its seat
abbrev pub AreLanes : ℕ → List Entry → List Laned → Type 0
AreLanes seats history lanes = (s : ℕ) → s < seats → slice_get lanes s ≡ Some (lane s (count_by_seat s history))

-- the machine accepts the entry's request, and then has this entry more; or it doesn't, and stays
abbrev pub GoesOn : Machine → Machine → Entry → Bool → Type 0
GoesOn M N e true = IsSome (answer (replay M.history) e.request).next × (N.history ≡ M.history ++ e ∷ [])
GoesOn M N e false = (IsSome (answer (replay M.history) e.request).next → ⊥) × (N ≡ M)

-- a house of so many seats makes the history; the book's total is its length, and each seat has a lane and a count with as many
-- entries as it has there
pub record IsFooting (history : List Entry) (total : ℕ) (lanes : List Laned) (counts : List ℕ) (seats : ℕ) : Type 0 where
  pub made : IsMade seats history
  pub sums : total ≡ length history
  pub lane_each : length lanes ≡ seats
  pub laned : AreLanes seats history lanes
  pub sized : length counts ≡ seats
  pub counted : (s : ℕ) → s < seats → slice_index counts s ≡ count_by_seat s history

-- the entry at this place is the first that a house of so many seats doesn't make there
pub record IsIllegalAt (seats : ℕ) (entries : List Entry) (at : ℕ) : Type 0 where
  pub made : IsMade seats (take at entries)
  pub entry : Entry
  pub there : slice_get entries at ≡ Some entry
  pub not : IsNext seats (take at entries) entry → ⊥

abbrev pub IsUnmade : ℕ → List Entry → RestoreError → Type 0
IsUnmade seats entries (refused.Illegal at) = IsIllegalAt seats entries at
IsUnmade seats entries refused.Memory = Unit {0}
