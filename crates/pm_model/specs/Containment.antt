-- Containment. Source: the standard's and the report's relation ASSIGN and its transitive closure; an element contains
-- itself, as a path of length 0 leads to it.
use Rattle.std.specs.Prelude.{◌≡◌, ℕ, Bool, ◌==◌, ◌||◌, ◌&&◌, List, [], ◌∷◌, Contains, map, filter}

-- from x, the elements of the list lead to y, and each step from one to the next is an assignment
abbrev pub Leads : List (ℕ × ℕ) → ℕ → List ℕ → ℕ → Type 0
Leads assigned x [] y = x ≡ y
Leads assigned x (z ∷ rest) y = Contains assigned (x, z) × Leads assigned z rest y

-- x is contained in y: some list of elements leads from x to y
abbrev pub IsContained : List (ℕ × ℕ) → ℕ → ℕ → Type 0
IsContained assigned x y = (path : List ℕ) × Leads assigned x path y

-- the same as a test that computes: y is reached without the first pair, or through it once
unfoldable pub contained : List (ℕ × ℕ) → ℕ → ℕ → Bool
contained [] x y = x == y
contained (pair ∷ assigned) x y =
    contained assigned x y || (contained assigned x pair.0 && contained assigned pair.1 y)

-- what x is assigned to, in order
abbrev pub containers : List (ℕ × ℕ) → ℕ → List ℕ
containers assigned x = map (λ pair. pair.1) (filter (λ pair. pair.0 == x) assigned)

-- containment, however it is kept: which elements are live, and the test
pub record Relation : Type 0 where
  pub live : ℕ → Bool
  pub below : ℕ → ℕ → Bool
