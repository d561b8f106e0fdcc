use Rattle.std.proofs.Common.{arith}
use Rattle.pm_reach.proofs.Bits.{bit_set}
use Rattle.pm_reach.proofs.words.set_bit.Goals as goal

pub returns-clause-set : goal.returns-clause-set
returns-clause-set c = bit_set c.args.words.now c.args.y (omega arith)
