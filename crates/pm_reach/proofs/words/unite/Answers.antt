-- Each word is joined, and past the end of the other row all are zero.
use Rattle.std.proofs.Common.{arith}
use Rattle.pm_reach.proofs.Bits.{joined_words}
use Rattle.pm_reach.proofs.words.unite.Goals as goal

pub returns-clause-row : goal.returns-clause-row
returns-clause-row c = joined_words c.args.into.now c.args.from.now c.loop-i.into c.loop-i.i (omega arith) c.loop-i.invariant.joined c.loop-i.invariant.rest
