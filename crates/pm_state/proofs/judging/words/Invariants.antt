-- The words so far are few.
use Rattle.std.proofs.Common.{◌≤◌, ◌-◌}
use Rattle.pm_state.proofs.judging.words.Given as goal

abbrev pub invariant-loop-id : goal.invariant-loop-id
invariant-loop-id l = l.words ≤ 256

abbrev pub decreases-loop-id : goal.decreases-loop-id
decreases-loop-id l = 256 - l.words
