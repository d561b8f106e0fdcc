-- Rows of bits by number. The row of x has what x is contained in.
use Rattle.std.specs.Prelude.{ℕ, Bool, false, ◌+◌, ◌/◌, ◌%◌, List, [], Option, Some, None, is_some, slice_get, unwrap_or, if◌then◌else◌}
use Rattle.std.proofs.Common.{zero, suc}
use Rattle.pm_model.specs.Containment.{Relation}
use Rattle.pm_reach.specs.Words.{in_row}
use Rattle.pm_reach.specs.declared.step.Step.{Step}

-- the rows, in pages of 64 numbers, and the step that is ready to be followed
pub record Readied : Type 0 where
  pub rows : List (List (Option (List ℕ)))
  pub ready : Option Step

-- what a place has, where it has something
abbrev pub option_at : {X : Type 0} → List (Option X) → ℕ → Option X
option_at xs n = unwrap_or (slice_get xs n) None

abbrev pub page_at : {X : Type 0} → List (List X) → ℕ → List X
page_at pages k = unwrap_or (slice_get pages k) []

-- what a number has, where it has something
abbrev pub place_at : {X : Type 0} → List (List (Option X)) → ℕ → Option X
place_at pages n = option_at (page_at pages (n / 64)) (n % 64)

abbrev pub row_has : Option (List ℕ) → ℕ → Bool
row_has None y = false
row_has (Some row) y = in_row row y

-- whether x has a row
abbrev pub has : List (List (Option (List ℕ))) → ℕ → Bool
has rows x = is_some (place_at rows x)

-- whether x has a row, and y is in it
abbrev pub below : List (List (Option (List ℕ))) → ℕ → ℕ → Bool
below rows x y = row_has (place_at rows x) y

-- containment as the rows tell it
abbrev pub relation_of : Readied → Relation
relation_of r = record { live = has r.rows; below = below r.rows }

-- of the numbers below a bound, how many pass a test
unfoldable pub count_of : (ℕ → Bool) → ℕ → ℕ
count_of test zero = 0
count_of test (suc n) = (if test n then 1 else 0) + count_of test n

-- one more than the highest number that an element has
abbrev pub most : ℕ
most = 16384

-- how many elements are contained in x
abbrev pub inside : List (List (Option (List ℕ))) → ℕ → ℕ
inside rows x = count_of (λ z. below rows z x) most
