use Rattle.std.proofs.Common.{◌≡◌}
use Rattle.pm_publish_tests.proofs.handoff.give_one.Given as goal

abbrev pub invariant-loop : goal.invariant-loop
invariant-loop g l = l.giver.place ≡ l.fn.giver.place
