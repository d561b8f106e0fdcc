-- The pairs that are left.
use Rattle.std.proofs.Common.{length}
use Rattle.pm_graph_tests.proofs.reach.+parent.Given as goal

abbrev pub decreases-parent : goal.decreases-parent
decreases-parent l = length l.pairs.now
