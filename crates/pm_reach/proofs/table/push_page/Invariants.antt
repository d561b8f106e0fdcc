-- Pages without rows were added.
use Rattle.std.proofs.Common.{◌≡◌, ◌≤◌, ◌<◌, ◌-◌, ℕ, map, vec_len, vec_capacity}
use Rattle.pm_reach.specs.Rows.{page_at}
use Rattle.pm_reach.specs.Table.{page_rows}
use Rattle.pm_reach.proofs.table.push_page.Given as goal

abbrev pub invariant-loop-pages : goal.invariant-loop-pages
invariant-loop-pages l = record {
  behind : vec_len l.pages ≤ l.k;
  room : l.k < vec_capacity l.pages;
  same : (m : ℕ) → page_at (map page_rows l.pages.items) m ≡ page_at (map page_rows l.fn.pages.items) m;
}

abbrev pub decreases-loop-pages : goal.decreases-loop-pages
decreases-loop-pages l = l.k - vec_len l.pages
