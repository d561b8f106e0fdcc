-- The items that are left.
use Rattle.std.proofs.Common.{length}
use Rattle.pm_rules_tests.proofs.decide.+the_grantee.Given as goal

abbrev pub decreases-the_grantee : goal.decreases-the_grantee
decreases-the_grantee l = length l.grantees.now
