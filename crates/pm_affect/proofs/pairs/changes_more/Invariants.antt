-- So far and in what is left there are as many as in the row.
use Rattle.std.proofs.Common.{◌≡◌, ◌+◌, ◌≤◌, drop, filter, length}
use Rattle.pm_affect.specs.Puts.{is_change}
use Rattle.pm_affect.proofs.pairs.changes_more.Given as goal

abbrev pub invariant-loop-n : goal.invariant-loop-n
invariant-loop-n l = record {
  count : l.changes + length (filter (is_change l.pairs) (drop l.n l.row)) ≡ length (filter (is_change l.pairs) l.row);
  few : l.changes ≤ 8;
}
