-- The element is in the place at the index, or the answer is that of those after it.
use Rattle.std.proofs.Common.{refl, ◌∙◌}
use Rattle.std.proofs.lemmas.Option.{slice_get_read}
use Rattle.pm_decide.proofs.Walks.{any-yes, any-no}
use Rattle.pm_decide.proofs.prohibitions.in_some.Goals as goal

pub returns-then-contains-clause-answer : goal.returns-then-contains-clause-answer
returns-then-contains-clause-answer g c =
    any-yes _ _ c.loop-place.place-index c.place-item.result c.loop-place.invariant.rest
    (rw c.as_slice-place-items.ensures at (slice_get_read _ _ _ _ refl c.loop-place-test.true c.place-item.is))
    (rw c.loop-place.invariant.same at c.if-contains.ensures.answer)

pub loop-place-preserved : goal.loop-place-preserved
loop-place-preserved g c = record {
  same = c.contains.ensures.same ∙ c.loop-place.invariant.same;
  rest = any-no _ _ c.loop-place.place-index c.place-item.result c.loop-place.invariant.rest
      (rw c.as_slice-place-items.ensures at (slice_get_read _ _ _ _ refl c.loop-place-test.true c.place-item.is))
      (rw c.loop-place.invariant.same at c.if-contains.ensures.answer);
}
