use Rattle.std.proofs.Common.{rules}
use Rattle.pm_affect.proofs.Puts.{put-same}
use Rattle.pm_affect.proofs.pairs.Pairs.put.Goals as goal

pub returns-then-eq-clause-ok : goal.returns-then-eq-clause-ok
returns-then-eq-clause-ok c = put-same c.args.element c.args.rights c.args.self.now c.requires (search rules)
