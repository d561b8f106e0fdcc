use Rattle.std.proofs.Common.{◌≤◌, ◌-◌}
use Rattle.pm_pages.proofs.items.next_own.Given as goal

abbrev pub invariant-loop-i : goal.invariant-loop-i
invariant-loop-i g l = l.from ≤ l.i

abbrev pub decreases-loop-i : goal.decreases-loop-i
decreases-loop-i g l = l.count - l.i
