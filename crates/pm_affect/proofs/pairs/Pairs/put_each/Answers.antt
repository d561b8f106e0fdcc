use Rattle.std.proofs.Common.{◌∙◌}
use Rattle.std.proofs.lemmas.Bool.{or_parts}
use Rattle.pm_affect.proofs.Merging.{put-more}
use Rattle.pm_affect.proofs.pairs.Pairs.put_each.Goals as goal

pub loop-n-preserved : goal.loop-n-preserved
loop-n-preserved c = record {
  rest = put-more c.args.row.now c.loop-n.n c.at-pair.result.now c.loop-n.self _ _ c.at-pair.ensures c.in_ok-changed.ensures.ok c.loop-n.invariant.rest;
  order = c.put.ensures.order;
  same = λ no.
      let parts = or_parts c.loop-n.changed c.in_ok-changed.field-0 no in c.in_ok-changed.ensures.same parts.1 ∙ c.loop-n.invariant.same parts.0;
}
