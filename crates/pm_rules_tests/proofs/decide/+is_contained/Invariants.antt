-- The pairs that are left.
use Rattle.std.proofs.Common.{length}
use Rattle.pm_rules_tests.proofs.decide.+is_contained.Given as goal

abbrev pub decreases-is_contained : goal.decreases-is_contained
decreases-is_contained l = length l.pairs.now
