use Rattle.pm_handoff.proofs.Order.{gives, giver_learns}
use Rattle.pm_handoff.proofs.handoff.Handoff.give.Goals as goal

pub push_as-requires-clause-rule : goal.push_as-requires-clause-rule
push_as-requires-clause-rule g c = (gives _ _ _ _ _ c.giver.invariant.0, giver_learns _ _ _ c.giver.invariant.0)
