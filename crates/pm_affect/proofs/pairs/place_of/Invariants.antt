-- The place lies between the two.
use Rattle.std.proofs.Common.{◌≤◌, ◌-◌, length}
use Rattle.pm_affect.specs.Puts.{elements_of, place}
use Rattle.pm_affect.proofs.pairs.place_of.Given as goal

abbrev pub invariant-loop-low : goal.invariant-loop-low
invariant-loop-low l = record {
  above : l.low ≤ place l.element (elements_of l.pairs);
  below : place l.element (elements_of l.pairs) ≤ l.high;
  within : l.high ≤ length l.pairs;
}

abbrev pub decreases-loop-low : goal.decreases-loop-low
decreases-loop-low l = l.high - l.low
