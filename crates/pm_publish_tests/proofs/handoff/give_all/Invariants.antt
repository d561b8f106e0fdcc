use Rattle.std.proofs.Common.{◌≡◌}
use Rattle.pm_publish_tests.proofs.handoff.give_all.Given as goal

abbrev pub invariant-loop-number : goal.invariant-loop-number
invariant-loop-number g l = l.giver.place ≡ l.queue.place
