-- The prohibition at i denies, or the answer is that of those after it.
use Rattle.std.proofs.Common.{refl, ◌∙◌}
use Rattle.std.proofs.lemmas.Option.{slice_get_read}
use Rattle.pm_decide.proofs.Walks.{place-yes, place-no}
use Rattle.pm_decide.proofs.prohibitions.first_among.Goals as goal

pub returns-then-forbids-clause-answer : goal.returns-then-forbids-clause-answer
returns-then-forbids-clause-answer g c =
    place-yes _ _ c.loop-i.i c.index-bars-i.result c.loop-i.invariant.rest
    (slice_get_read c.args.bars.now _ _ _ refl c.loop-i-test.true c.index-bars-i.is) (rw c.loop-i.invariant.same at c.if-forbids.ensures.answer)

pub loop-i-preserved : goal.loop-i-preserved
loop-i-preserved g c = record {
  same = c.forbids.ensures.same ∙ c.loop-i.invariant.same;
  rest = place-no _ _ c.loop-i.i c.index-bars-i.result c.loop-i.invariant.rest
      (slice_get_read c.args.bars.now _ _ _ refl c.loop-i-test.true c.index-bars-i.is) (rw c.loop-i.invariant.same at c.if-forbids.ensures.answer);
}
