-- The number's bit is set, and the others are as they were.
use Rattle.std.proofs.Common.{arith}
use Rattle.pm_given.proofs.Tells.{mark-put}
use Rattle.pm_given.proofs.marks.learn.Goals as goal

pub returns-clause-known : goal.returns-clause-known
returns-clause-known c = λ p. rw (c.number-n.ensures) (mark-put c.args.known.now c.args.id p (omega (arith, c.requires.within, c.requires.long)))
