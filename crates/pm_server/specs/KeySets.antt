-- Sets of keys below 1,024, a bit each.
use Rattle.std.specs.Prelude.{ℕ, ◌≡◌, ◌≢◌, ◌<◌, ◌/◌, ◌%◌, ◌==◌, Bool, true, List, slice_index_or, Option, Some, None, ◌↔◌}
use Rattle.std.specs.List.{list_any}
use Rattle.mio.specs.Event.{event_token}
use Rattle.mio.specs.declared.event.event.Event.{Event}
use mathlib.Core.Logic.{◌⊎◌}
use Rattle.std.specs.Int.{bit_at}

-- the words, of 64 keys each
pub record KeySet : Type 0 where
  pub words : List ℕ

abbrev pub HasKey : KeySet → ℕ → Type 0
HasKey s k = bit_at (slice_index_or s.words (k / 64) 0) (k % 64) ≡ 1

-- it has this key and those of the other, and no more; a key from 1,024 on is in none
pub record HasAdded (s t : KeySet) (key : ℕ) : Type 0 where
  pub new : key < 1024 → HasKey t key
  pub others : (k : ℕ) → k ≢ key → HasKey t k ↔ HasKey s k

-- it has the keys of the other but the lowest, which is this one; none exactly where the other has none
abbrev pub HasTaken : KeySet → KeySet → Option ℕ → Type 0
HasTaken s t (Some key) = (key < 1024) × HasKey s key × ¬ HasKey t key × ((k : ℕ) → k < key → ¬ HasKey s k) × ((k : ℕ) → k ≢ key → HasKey t k ↔ HasKey s k)
HasTaken s t None = (t ≡ s) × ((k : ℕ) → ¬ HasKey s k)

-- the event tells this key
abbrev pub is_told : ℕ → Event → Bool
is_told key event = (event_token event).0 == key

-- of the keys below 1,024 it has those of the other and those that the events tell, and no more
abbrev pub HasAddedAll : KeySet → KeySet → List Event → Type 0
HasAddedAll s t events = (k : ℕ) → k < 1024 → HasKey t k ↔ (HasKey s k ⊎ (list_any (is_told k) events ≡ true))
