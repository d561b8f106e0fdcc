-- The items that are left.
use Rattle.std.proofs.Common.{length}
use Rattle.pm_rules_tests.proofs.decide.+numbers_in.Given as goal

abbrev pub decreases-numbers_in : goal.decreases-numbers_in
decreases-numbers_in l = length l.grantees.now
