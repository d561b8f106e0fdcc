use Rattle.std.proofs.Common.{◌∙◌}
use Rattle.pm_step.specs.Settling.{reviews_settled}
use Rattle.pm_step.proofs.Settled.{first-within, settled-more, settled-all}
use Rattle.pm_step.proofs.settling.settle_reviews.Goals as goal

pub settle_at-requires-clause-place : goal.settle_at-requires-clause-place
settle_at-requires-clause-place c =
    first-within c.args.before.now.graph c.args.draft.now.graph c.args.version c.loop-place.draft.graph c.loop-place.place c.loop-place.invariant.graph
    (rw (c.len-place-end.ensures, c.kept.ensures, c.graph.ensures) at c.loop-place-test.true)

pub loop-place-preserved : goal.loop-place-preserved
loop-place-preserved c = record {
  graph =
      settled-more c.args.before.now.graph c.args.draft.now.graph c.args.version c.loop-place.draft.graph c.settle_at.new.draft.graph c.loop-place.place
      c.loop-place.invariant.graph (rw (c.len-place-end.ensures, c.kept.ensures, c.graph.ensures) at c.loop-place-test.true)
      c.in_ok-settle_at.ensures.ok;
  history = c.in_ok-settle_at.ensures.history ∙ c.loop-place.invariant.history;
  done = λ w. c.in_ok-settle_at.ensures.done w ∙ c.loop-place.invariant.done w;
}

pub returns-clause-ok : goal.returns-clause-ok
unfolding reviews_settled
returns-clause-ok c =
    settled-all c.args.before.now.graph c.args.draft.now.graph c.args.version c.loop-place.draft.graph c.loop-place.place c.loop-place.invariant.graph
    (rw (c.len-place-end.ensures, c.kept.ensures, c.graph.ensures) at c.loop-place-test.false)
