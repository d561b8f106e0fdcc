use Rattle.pm_affect.proofs.Merging.{push-more}
use Rattle.pm_affect.proofs.merge.push_rest.Goals as goal

pub loop-k-preserved : goal.loop-k-preserved
loop-k-preserved c = push-more c.args.pairs.now c.loop-k.k c.at.result.now c.loop-k.all _ _ c.at.ensures c.in_ok-push.ensures.ok c.loop-k.invariant
