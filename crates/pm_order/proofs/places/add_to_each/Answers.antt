use Rattle.std.proofs.Common.{◌<◌, [], ◌∷◌, ◌++◌, length, take, get_or, sym, subst, arith}
use Rattle.std.proofs.lemmas.List.{take_more}
use Rattle.std.proofs.lemmas.List.Elements.{Contains-get_or}
use Rattle.pm_order.specs.Ranked.{AreAdded}
use Rattle.pm_order.proofs.Children.{added-more, added-none, added-whole}
use Rattle.pm_order.proofs.places.add_to_each.Goals as goal

pub loop-place-init : goal.loop-place-init
loop-place-init c = added-none c.args.item c.args.lists.now

pub add-requires : goal.add-requires
add-requires c =
    let places = c.args.places.now in
    let k = c.loop-place.place-index in
    let within = c.requires (get_or places k 0) (Contains-get_or places k 0 c.loop-place-test.true) in
    let same = c.loop-place.invariant.0 in omega (arith, within, same)

pub loop-place-preserved : goal.loop-place-preserved
loop-place-preserved c =
    let places = c.args.places.now in
    let k = c.loop-place.place-index in
    let at = get_or places k 0 in
    let before = c.args.lists.now in
    let among = c.requires at (Contains-get_or places k 0 c.loop-place-test.true) in
    let same = c.loop-place.invariant.0 in
    let within : at < length c.loop-place.lists = omega (arith, among, same) in
    let more = added-more c.args.item (take k places) before c.loop-place.lists at within c.loop-place.invariant in
    subst (λ l. AreAdded c.args.item l before c.add.new.lists) (sym (take_more places k 0 c.loop-place-test.true))
    (subst (λ l. AreAdded c.args.item (take k places ++ at ∷ []) before l) (sym c.in_ok-add.ensures) more)

pub returns : goal.returns
returns c =
    added-whole c.args.item c.loop-place.place-index c.args.places.now c.args.lists.now c.loop-place.lists c.loop-place-test.false c.loop-place.invariant
