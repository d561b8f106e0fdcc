-- The pairs so far are the same in both.
use Rattle.std.proofs.Common.{◌≤◌, ◌-◌, length}
use Rattle.pm_review.specs.Rising.{AreSame}
use Rattle.pm_review.proofs.differences.begin_alike.Given as goal

abbrev pub invariant-loop-n : goal.invariant-loop-n
invariant-loop-n l = record {
  old : l.n ≤ length l.old;
  new : l.n ≤ length l.new;
  same : AreSame l.n l.old l.new;
}

abbrev pub decreases-loop-n : goal.decreases-loop-n
decreases-loop-n l = length l.old - l.n
