use Rattle.std.proofs.Common.{count_ones, ap}
use Rattle.pm_assoc.proofs.Counts.{below_mask}
use Rattle.pm_assoc.proofs.holders.lower_in.Goals as goal

pub returns : goal.returns
returns c = ap count_ones (below_mask c.args.word c.args.number)
