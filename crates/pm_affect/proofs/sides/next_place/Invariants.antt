-- The place isn't passed.
use Rattle.std.proofs.Common.{◌≤◌, ◌-◌, length}
use Rattle.pm_affect.specs.Lists.{subjects}
use Rattle.pm_affect.specs.Puts.{place}
use Rattle.pm_affect.proofs.sides.next_place.Given as goal

abbrev pub invariant-loop-i : goal.invariant-loop-i
invariant-loop-i l = l.i ≤ place l.subject (subjects l.items)

abbrev pub decreases-loop-i : goal.decreases-loop-i
decreases-loop-i l = length l.items - l.i
