-- The numbers below z were passed, and z is the next one.
use Rattle.std.proofs.Common.{◌≡◌, ◌<◌, ◌≤◌, ◌-◌, ◌||◌, true, length}
use Rattle.pm_reach.specs.Words.{in_row}
use Rattle.pm_reach.specs.Rows.{below, most}
use Rattle.pm_reach.specs.Passes.{Passed}
use Rattle.pm_reach.proofs.changes.join_all.Given as goal

abbrev pub invariant-loop-z : goal.invariant-loop-z
invariant-loop-z l = record {
  few : l.written ≤ l.z;
  to : l.z ≤ most;
  there : l.z < l.inside.span.high → in_row l.inside.row.items l.z ≡ true;
  passed : Passed l.inside.of (length l.other) (λ p q. below l.fn.table.rows p q || in_row l.other q) l.fn.table l.table l.z l.written;
}

abbrev pub decreases-loop-z : goal.decreases-loop-z
decreases-loop-z l = l.inside.span.high - l.z
