use Rattle.pm_handoff.proofs.Order.{takes, taker_learns}
use Rattle.pm_handoff.proofs.handoff.Handoff.take.Goals as goal

pub pop_as-requires-clause-rule : goal.pop_as-requires-clause-rule
pop_as-requires-clause-rule g c = (takes _ _ _ c.taker.invariant.0, taker_learns _ _ _ c.taker.invariant.0)
