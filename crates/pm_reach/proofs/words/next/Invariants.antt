-- The numbers before z are passed.
use Rattle.std.proofs.Common.{◌≡◌, ◌<◌, ◌≤◌, ◌-◌, ℕ, false}
use Rattle.pm_reach.specs.Words.{in_row}
use Rattle.pm_reach.specs.Rows.{most}
use Rattle.pm_reach.proofs.words.next.Given as goal

abbrev pub invariant-loop-z : goal.invariant-loop-z
invariant-loop-z l = record {
  from : l.from ≤ l.z;
  to : l.z ≤ most;
  none : (p : ℕ) → l.from ≤ p → p < l.z → in_row l.words p ≡ false;
}

abbrev pub decreases-loop-z : goal.decreases-loop-z
decreases-loop-z l = l.high - l.z
