use Rattle.std.proofs.Common.{◌≡◌, ◌+◌, ◌∙◌, [], length, get_or, ap, sym, subst, arith, Contains}
use Rattle.std.proofs.lemmas.List.{get_or_default}
use Rattle.pm_order.specs.Ranked.{AreAdded}
use Rattle.pm_order.proofs.Children.{children-all, children-more, children-none, stored, AreChildrenTo}
use Rattle.pm_order.proofs.places.children.Goals as goal

pub loop-place-init : goal.loop-place-init
loop-place-init c = subst (λ l. AreChildrenTo 0 l c.args.containers.now) (sym c.in_ok-children.ensures) (children-none c.args.containers.now)

pub add_to_each-requires : goal.add_to_each-requires
add_to_each-requires c k h =
    let above = c.args.containers.now in
    let n = c.loop-place.place in
    let item : c.as_slice.result.now ≡ get_or above n [] =
    c.as_slice.ensures ∙ c.index-containers-place.is ∙ get_or_default above n c.index-containers-place.result [] c.loop-place-test.true in
    let within = c.requires n k (subst (λ l. Contains l k) item h) in
    let slice = ap length c.as_mut_slice.ensures.value in
    let same = c.loop-place.invariant.0 in omega (arith, within, slice, same)

pub loop-place-preserved : goal.loop-place-preserved
loop-place-preserved c =
    let above = c.args.containers.now in
    let n = c.loop-place.place in
    let before = c.loop-place.children.items in
    let now = c.add_to_each.new.lists in
    let item : c.as_slice.result.now ≡ get_or above n [] =
    c.as_slice.ensures ∙ c.index-containers-place.is ∙ get_or_default above n c.index-containers-place.result [] c.loop-place-test.true in
    let added : AreAdded n (get_or above n []) before now = subst (λ l. AreAdded n l before now) item
    (subst (λ l. AreAdded n c.as_slice.result.now l now) c.as_mut_slice.ensures.value c.in_ok-add_to_each.ensures) in
    let many = added.0 in
    let slice = ap length c.as_mut_slice.ensures.value in
    let len = c.as_mut_slice.ensures.len in
    let all : c.loop-place.children.len ≡ length now = omega (arith, many, slice, len) in
    subst (λ l. AreChildrenTo (n + 1) l above) (sym (stored c.loop-place.children.len now before all many))
    (children-more n before now above c.loop-place.invariant added)

pub returns : goal.returns
returns c = record {
  count = c.loop-place.invariant.0;
  children = children-all c.loop-place.place c.loop-place.children.items c.args.containers.now c.loop-place-test.false c.loop-place.invariant;
}
