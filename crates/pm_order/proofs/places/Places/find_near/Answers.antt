use Rattle.std.proofs.Common.{sym}
use Rattle.pm_order.proofs.Placed.{position_at}
use Rattle.pm_order.proofs.places.Places.find_near.Goals as goal

pub returns-then-stands_at : goal.returns-then-stands_at
returns-then-stands_at c = sym (position_at c.args.self.now c.args.name.now c.args.likely c.requires.once (c.stands_at.ensures.0 c.if-stands_at.true))

pub returns-then-stands_at-2 : goal.returns-then-stands_at-2
returns-then-stands_at-2 c =
    sym (position_at c.args.self.now c.args.name.now c.saturating_add-next.result c.requires.once (c.stands_at-2.ensures.0 c.if-stands_at-2.true))
