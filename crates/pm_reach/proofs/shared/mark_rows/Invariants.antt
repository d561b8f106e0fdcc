-- The rows before j were looked at.
use Rattle.std.proofs.Common.{◌≡◌, ◌≢◌, ◌<◌, ◌≤◌, ℕ, ◌/◌, ◌%◌, ◌||◌, ◌⊎◌, length}
use Rattle.pm_reach.specs.Words.{in_row}
use Rattle.pm_reach.specs.Rows.{option_at, row_has}
use Rattle.pm_reach.specs.Table.{page_rows}
use Rattle.pm_reach.proofs.shared.mark_rows.Given as goal

abbrev pub invariant-loop-j : goal.invariant-loop-j
invariant-loop-j l = record {
  long : length l.into ≡ length l.fn.into;
  here : (q : ℕ) → q / 64 ≡ l.k → q % 64 < l.j → in_row l.into q ≡ (in_row l.fn.into q || row_has (option_at (page_rows l.page) (q % 64)) l.x);
  others : (q : ℕ) → (q / 64 ≢ l.k) ⊎ (l.j ≤ q % 64) → in_row l.into q ≡ in_row l.fn.into q;
}
