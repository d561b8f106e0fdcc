use Rattle.std.proofs.Common.{◌≤◌}
use Rattle.pm_publish_tests.proofs.publish.publish_up_to.Given as goal

abbrev pub invariant-loop-length : goal.invariant-loop-length
invariant-loop-length g l = l.publisher.0 ≤ l.length
