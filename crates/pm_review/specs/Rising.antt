-- Lists by rising number.
use Rattle.std.specs.Prelude.{◌≡◌, ℕ, ◌+◌, ◌≤◌, ◌<◌, Bool, List, [], ◌∷◌, map, slice_get, IsTrue, All}
use Rattle.pm_model.specs.declared.reviews.Pair.{Pair}

-- the numbers rise, and the first is at least `low`
abbrev pub RiseFrom : ℕ → List ℕ → Type 0
RiseFrom low [] = Unit {0}
RiseFrom low (n ∷ ns) = (low ≤ n) × RiseFrom (n + 1) ns

-- the numbers of the elements rise, and the first is at least `low`
abbrev pub PairsRiseFrom : ℕ → List Pair → Type 0
PairsRiseFrom low list = RiseFrom low (map (λ (p : Pair). p.element) list)

-- each number passes the test
abbrev pub AllNamed : (ℕ → Bool) → List Pair → Type 0
AllNamed named list = All (λ (p : Pair). IsTrue (named p.element)) list

-- each number has one name, by the one and by the other
abbrev pub AllAlike : (ℕ → List ℕ) → (ℕ → List ℕ) → List Pair → Type 0
AllAlike was is list = All (λ (p : Pair). was p.element ≡ is p.element) list

-- the first n pairs of both are the same
abbrev pub AreSame : ℕ → List Pair → List Pair → Type 0
AreSame n ps qs = (k : ℕ) → k < n → slice_get ps k ≡ slice_get qs k
