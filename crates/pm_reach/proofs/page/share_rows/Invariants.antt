use Rattle.std.proofs.Common.{◌≡◌, vec_len}
use Rattle.pm_reach.specs.Table.{shown}
use Rattle.pm_reach.proofs.page.share_rows.Given as goal

abbrev pub invariant-loop-j : goal.invariant-loop-j
invariant-loop-j l = record {
  long : vec_len l.rows ≡ vec_len l.fn.rows;
  rows : shown l.rows.items ≡ shown l.fn.rows.items;
}
