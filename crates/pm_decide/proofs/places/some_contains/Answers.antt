-- The row and the word have no bit in common.
use Rattle.std.proofs.Common.{◌≡◌, suc, ◌+◌, take, get_or, arith, ap, sym, subst, ◌∙◌}
use Rattle.std.proofs.Math.Seq.{take-suc}
use Rattle.pm_model.specs.declared.grants.PlaceWord.{PlaceWord}
use Rattle.pm_decide.specs.Places.{NoneContains}
use Rattle.pm_decide.proofs.Passed.{none-in, none-more}
use Rattle.pm_decide.proofs.places.some_contains.Goals as goal

pub loop-place-preserved : goal.loop-place-preserved
loop-place-preserved g c =
    let below = (g.R.Reach.relation c.args.reach.now).below in
    let places = c.args.places.now in
    let i = c.loop-place.place-index in
    let nothing : PlaceWord = record { k = 0; word = 0 } in
    let place = get_or places i nothing in
    let on : i + 1 ≡ suc i = omega arith in
    let next = ap (λ j. take j places) on ∙ take-suc places i nothing c.loop-place-test.true in
    let row = rw c.loop-place.invariant.same at c.above.ensures.word in
    record {
      same = c.above.ensures.same ∙ c.loop-place.invariant.same;
      none = subst (NoneContains below c.args.element) (sym next)
          (none-more below c.args.element (take i places) place c.loop-place.invariant.none (none-in below c.args.element place c.above.result row c.if-above-place-ne0.false));
    }
