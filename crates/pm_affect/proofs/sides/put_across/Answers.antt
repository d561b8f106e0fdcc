use Rattle.pm_affect.proofs.Merging.{across-more}
use Rattle.pm_affect.proofs.sides.put_across.Goals as goal

pub loop-n-preserved : goal.loop-n-preserved
loop-n-preserved c = record {
  rest = across-more c.args.user c.args.row.now c.loop-n.n c.at-pair.result.now c.loop-n.items.items _ _ c.at-pair.ensures c.in_ok-put_at.ensures.ok c.loop-n.invariant.rest;
  listed = c.put_at.ensures.listed;
}
