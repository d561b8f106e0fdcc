use Rattle.pm_by_name.proofs.Ordered.{associations_rising_once}
use Rattle.pm_sound.proofs.once.check_associated_once.Goals as goal

pub returns-then-are_associations_in_order : goal.returns-then-are_associations_in_order
returns-then-are_associations_in_order c =
    associations_rising_once c.args.associations.now (c.are_associations_in_order.ensures.0 c.if-are_associations_in_order.true)
