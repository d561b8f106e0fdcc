use Rattle.pm_by_name.proofs.Ordered.{assignments_rising_once}
use Rattle.pm_sound.proofs.once.check_assigned.Goals as goal

pub returns-then-are_assignments_in_order : goal.returns-then-are_assignments_in_order
returns-then-are_assignments_in_order c = assignments_rising_once c.args.pairs.now (c.are_assignments_in_order.ensures.0 c.if-are_assignments_in_order.true)
