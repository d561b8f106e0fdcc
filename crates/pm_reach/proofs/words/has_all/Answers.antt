use Rattle.std.proofs.Common.{arith}
use Rattle.pm_reach.proofs.Bits.{all_there}
use Rattle.pm_reach.proofs.words.has_all.Goals as goal

pub returns : goal.returns
returns c = all_there c.args.words.now c.args.other.now (λ k l. c.loop-i.invariant k (omega arith))
