-- The unions of pages: row k has all that the rows of page k have.
use Rattle.std.specs.Prelude.{◌≡◌, ◌/◌, ℕ, true, List, Option, ⊤}
use Rattle.pm_reach.specs.Rows.{below}
use Rattle.pm_reach.specs.NewRows.{made_below}
use Rattle.pm_reach.specs.declared.step.Step.{Step}
use Rattle.pm_reach.specs.declared.step.Step.TheVariants as step

-- the union of a page has all that its rows have, and maybe more
unfoldable pub AreUnions : List (List (Option (List ℕ))) → List (List (Option (List ℕ))) → Type 0
AreUnions unions rows = (p q : ℕ) → below rows p q ≡ true → below unions (p / 64) q ≡ true

-- nothing was taken away
abbrev pub Keeps : List (List (Option (List ℕ))) → List (List (Option (List ℕ))) → Type 0
Keeps old new = (k q : ℕ) → below old k q ≡ true → below new k q ≡ true

-- the unions have already what the rows get when they follow the step
abbrev pub Cover : List (List (Option (List ℕ))) → List (List (Option (List ℕ))) → Step → Type 0
Cover unions rows (step.Make x into) = (q : ℕ) → made_below rows x into q ≡ true → below unions (x / 64) q ≡ true
Cover unions rows (step.Assign x y) = (p q : ℕ) → below rows p x ≡ true → below rows y q ≡ true → below unions (p / 64) q ≡ true
Cover unions rows (step.Deassign x y) = ⊤
Cover unions rows (step.Remove x) = ⊤
