-- The numbers below z were looked at, and z is the next one.
use Rattle.std.proofs.Common.{◌≡◌, ◌<◌, ◌≤◌, ◌-◌, true}
use Rattle.pm_reach.specs.Words.{in_row}
use Rattle.pm_reach.specs.Rows.{most}
use Rattle.pm_reach.proofs.Rising.{RisesBelow}
use Rattle.pm_reach.proofs.inside.rises.Given as goal

abbrev pub invariant-loop-z : goal.invariant-loop-z
invariant-loop-z l = record {
  to : l.z ≤ most;
  there : l.z < l.inside.span.high → in_row l.inside.row.items l.z ≡ true;
  rises : RisesBelow l.table.rows l.inside.of l.z;
}

abbrev pub decreases-loop-z : goal.decreases-loop-z
decreases-loop-z l = l.inside.span.high - l.z
