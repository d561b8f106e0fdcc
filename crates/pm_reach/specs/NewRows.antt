-- A row for an element that is to be made.
use Rattle.std.specs.Prelude.{◌≡◌, ◌≢◌, ◌<◌, ◌≤◌, ◌/◌, ◌%◌, ◌==◌, ◌||◌, ℕ, Bool, List, length, Option, Some, None}
use Rattle.pm_reach.specs.Rows.{option_at, below}
use Rattle.pm_reach.specs.Table.{Table, shown, IsOpen}
use Rattle.pm_reach.specs.declared.page.Page.{Page}
use Rattle.pm_reach.specs.declared.table.NewRow.{NewRow}
use Rattle.pm_reach.specs.declared.table.NewRow.TheVariants.{Within, Beyond}

-- what a new row has
abbrev pub new_words : ℕ → NewRow → Option (List ℕ)
new_words x (Within words) = Some words.items
new_words x (Beyond page) = option_at (shown page.rows.items) (x % 64)

-- the page has no row but that of x, and can be put behind the others
pub record IsBehind (t : Table) (x : ℕ) (page : Page) : Type 0 where
  pub behind : length t.rows ≤ x / 64
  pub room : x / 64 < t.pages
  pub alone : (i : ℕ) → i ≢ x % 64 → option_at page.rows.items i ≡ None

-- a new row can be the row of x
abbrev pub Fits : Table → ℕ → NewRow → Type 0
Fits t x (Within words) = IsOpen t x
Fits t x (Beyond page) = IsBehind t x page

-- what the row of x has once x is made: x, and what the row of the container has
abbrev pub made_below : List (List (Option (List ℕ))) → ℕ → Option ℕ → ℕ → Bool
made_below rows x None q = q == x
made_below rows x (Some y) q = q == x || below rows y q
