-- The items that are left.
use Rattle.std.proofs.Common.{length}
use Rattle.pm_rules_tests.proofs.decide.+containers_in.Given as goal

abbrev pub decreases-containers_in : goal.decreases-containers_in
decreases-containers_in l = length l.pairs.now
