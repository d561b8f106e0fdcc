-- Some of the classes of a list, by the bits of a word: bit i is the class at place i of the list, from 0.
use Rattle.std.specs.Prelude.{◌≡◌, ◌<◌, ℕ, Bool, true, false, ◌==◌, ◌&&◌, not, List, Option, Some, None, slice_get, IsTrue}
use Rattle.std.specs.Int.{bit_at}
use Rattle.pm_model.specs.Containment.{Relation}

-- the class passes the test; where there is none, no
abbrev pub passes : (ℕ → Bool) → Option ℕ → Bool
passes test None = false
passes test (Some pc) = test pc

-- each bit that is set is a class, and it is live
abbrev pub AreClasses : Relation → List ℕ → ℕ → Type 0
AreClasses relation pcs word = (i : ℕ) → i < 64 → (bit_at word i == 1) ≡ true → IsTrue (passes relation.live (slice_get pcs i))

-- the bits that are set are the classes that pass the test
abbrev pub AreThose : (ℕ → Bool) → List ℕ → ℕ → Type 0
AreThose test pcs word = (i : ℕ) → i < 64 → (bit_at word i == 1) ≡ passes test (slice_get pcs i)

-- of the classes of the first word those that don't pass the test are left
abbrev pub AreLeft : (ℕ → Bool) → List ℕ → ℕ → ℕ → Type 0
AreLeft test pcs word left = (i : ℕ) → i < 64 → (bit_at left i == 1) ≡ (bit_at word i == 1 && not (passes test (slice_get pcs i)))
