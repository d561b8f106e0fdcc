use Rattle.std.proofs.Common.{◌≡◌, ◌≤◌, length, take, vec_len, vec_capacity}
use Rattle.pm_pages.specs.Listed.{items_of, listed, starts_from}
use Rattle.pm_pages.proofs.rows.restart.Given as goal

abbrev pub invariant-loop-page : goal.invariant-loop-page
invariant-loop-page g l = record {
  starts : l.starts.items ≡ starts_from items_of 0 (take l.page-index l.pages);
  begin : l.begin ≡ length (listed (take l.page-index l.pages));
  places : length l.pages ≤ vec_capacity l.starts;
  so_far : vec_len l.starts ≡ l.page-index;
}
