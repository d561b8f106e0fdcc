use Rattle.std.proofs.Common.{◌∙◌, ap, map, get_or, arith}
use Rattle.std.proofs.lemmas.List.{take_all}
use Rattle.pm_by_name.proofs.Places.{at_more, place-within}
use Rattle.pm_by_name.proofs.by_name.items_at.Goals as goal

pub offset_bounds-items-place : goal.offset_bounds-items-place
offset_bounds-items-place g c =
    let within = place-within c.args.items.now c.args.places.now c.loop-place.place-index c.requires c.loop-place-test.true in omega (arith, within)

pub bounds-items-place : goal.bounds-items-place
bounds-items-place g c = place-within c.args.items.now c.args.places.now c.loop-place.place-index c.requires c.loop-place-test.true

pub loop-place-preserved : goal.loop-place-preserved
loop-place-preserved g c d =
    let x = c.index-items-place.result in
    at_more c.args.items.now c.args.places.now c.loop-place.place-index d x c.loop-place.list.items c.push.new.self.items c.requires c.loop-place-test.true
    c.index-items-place.is (c.loop-place.invariant d) c.in_ok-push.ensures.items

pub returns : goal.returns
returns g c d =
    c.loop-place.invariant d ∙ ap (λ l. map (λ k. get_or c.args.items.now k d) l) (take_all c.loop-place.place-index c.args.places.now (omega arith))
