use Rattle.pm_affect.proofs.Merging.{starts-at}
use Rattle.pm_affect.proofs.merge.is_lower.Goals as goal

pub returns-then-i-len : goal.returns-then-i-len
returns-then-i-len c = rw (c.number.ensures, c.number-then-i-len.ensures) (starts-at c.args.pairs.now c.args.i c.args.element c.at.result.now c.at.ensures)
