use Rattle.std.proofs.Common.{◌≡◌, map, vec_len}
use Rattle.pm_reach.specs.Table.{page_rows}
use Rattle.pm_reach.proofs.table.share_pages.Given as goal

abbrev pub invariant-loop-k : goal.invariant-loop-k
invariant-loop-k l = record {
  long : vec_len l.pages ≡ vec_len l.fn.pages;
  rows : map page_rows l.pages.items ≡ map page_rows l.fn.pages.items;
}
