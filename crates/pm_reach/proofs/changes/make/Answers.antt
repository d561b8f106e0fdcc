-- The row put there is that of the element made.
use Rattle.pm_reach.proofs.Making.{made}
use Rattle.pm_reach.proofs.changes.make.Goals as goal

pub returns : goal.returns
returns c =
    made c.args.table.now c.put.new.self.rows c.in-Make.is c.requires.step c.requires.possible c.requires.taken
    (rw c.number.ensures at c.put.ensures.row) (rw c.number.ensures at c.put.ensures.others)
