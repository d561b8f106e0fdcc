-- The row that is gone is that of the element deleted.
use Rattle.pm_reach.proofs.Making.{removed}
use Rattle.pm_reach.proofs.changes.remove.Goals as goal

pub returns : goal.returns
returns c =
    removed c.args.table.now.rows c.clear.new.self.rows c.args.x (rw c.number.ensures at c.clear.ensures.gone) (rw c.number.ensures at c.clear.ensures.others)
