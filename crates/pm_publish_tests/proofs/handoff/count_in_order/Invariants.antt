use Rattle.std.proofs.Common.{◌≡◌}
use Rattle.pm_publish_tests.proofs.handoff.count_in_order.Given as goal

abbrev pub invariant-loop-number : goal.invariant-loop-number
invariant-loop-number g l = l.taker.place ≡ l.queue.place
