-- Those below z are counted, and z is the next one.
use Rattle.std.proofs.Common.{◌≡◌, ◌<◌, ◌≤◌, ◌-◌, true}
use Rattle.pm_reach.specs.Words.{in_row}
use Rattle.pm_reach.specs.Rows.{count_of, most}
use Rattle.pm_reach.proofs.inside.Inside.count.Given as goal

abbrev pub invariant-loop-z : goal.invariant-loop-z
invariant-loop-z l = record {
  few : l.count ≤ l.z;
  to : l.z ≤ most;
  there : l.z < l.self.span.high → in_row l.self.row.items l.z ≡ true;
  counted : l.count ≡ count_of (in_row l.self.row.items) l.z;
}

abbrev pub decreases-loop-z : goal.decreases-loop-z
decreases-loop-z l = l.self.span.high - l.z
