use Rattle.std.proofs.Common.{sym}
use Rattle.pm_affect.specs.Puts.{elements_of}
use Rattle.pm_affect.proofs.Merging.{rises_rise}
use Rattle.pm_affect.proofs.pairs.Pairs.put_all.Goals as goal

pub merge-requires-clause-rise : goal.merge-requires-clause-rise
merge-requires-clause-rise c = rises_rise 0 (elements_of c.args.row.now) (sym c.if-rises.ensures)
