-- Items by rising number.
use Rattle.std.specs.Prelude.{◌≡◌, ℕ, ◌+◌, ◌<◌, ◌≤◌, List, [], ◌∷◌, length, Some, slice_get}

-- the numbers rise, and the first is at least `low`
abbrev pub AreRising : {X : Type 0} → (X → ℕ) → ℕ → List X → Type 0
AreRising number low [] = Unit {0}
AreRising number low (x ∷ xs) = (low ≤ number x) × AreRising number (number x + 1) xs

-- i is behind the items of lower numbers than n, and before the others
pub record IsCut {X : Type 0} (number : X → ℕ) (n : ℕ) (xs : List X) (i : ℕ) : Type 0 where
  pub within : i ≤ length xs
  pub lower : (k : ℕ) (x : X) → k < i → slice_get xs k ≡ Some x → number x < n
  pub others : (k : ℕ) (x : X) → i ≤ k → slice_get xs k ≡ Some x → n ≤ number x
