-- The place lies between the two.
use Rattle.std.proofs.Common.{◌≤◌, ◌-◌, length}
use Rattle.pm_affect.specs.Lists.{subjects}
use Rattle.pm_affect.specs.Puts.{place}
use Rattle.pm_affect.proofs.sides.place.Given as goal

abbrev pub invariant-loop-low : goal.invariant-loop-low
invariant-loop-low l = record {
  above : l.low ≤ place l.subject (subjects l.items);
  below : place l.subject (subjects l.items) ≤ l.high;
  within : l.high ≤ length l.items;
}

abbrev pub decreases-loop-low : goal.decreases-loop-low
decreases-loop-low l = l.high - l.low
