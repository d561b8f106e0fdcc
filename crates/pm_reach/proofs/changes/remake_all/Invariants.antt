-- The numbers below z were passed, and z is the next one.
use Rattle.std.proofs.Common.{◌≡◌, ◌<◌, ◌≤◌, ◌-◌, true, length}
use Rattle.pm_model.specs.Containment.{contained}
use Rattle.pm_search.specs.Marks.{NoneMarked}
use Rattle.pm_reach.specs.Words.{in_row}
use Rattle.pm_reach.specs.Rows.{most}
use Rattle.pm_reach.specs.Passes.{Passed}
use Rattle.pm_reach.proofs.changes.remake_all.Given as goal

abbrev pub invariant-loop-z : goal.invariant-loop-z
invariant-loop-z g l = record {
  few : l.written ≤ l.z;
  to : l.z ≤ most;
  there : l.z < l.inside.span.high → in_row l.inside.row.items l.z ≡ true;
  none : NoneMarked l.marks;
  long : length l.row ≡ length l.fn.row;
  passed : Passed l.inside.of 0 (contained (g.P.Parents.assigned l.parents)) l.fn.table l.table l.z l.written;
}

abbrev pub decreases-loop-z : goal.decreases-loop-z
decreases-loop-z g l = l.inside.span.high - l.z
