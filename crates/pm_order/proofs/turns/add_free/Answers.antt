use Rattle.std.proofs.Common.{take, get_or, sym, subst}
use Rattle.std.proofs.lemmas.List.{take_all, take_more}
use Rattle.std.proofs.lemmas.List.Elements.{Contains-get_or}
use Rattle.pm_order.proofs.Free.{of-more, of-none, AreFreeOf}
use Rattle.pm_order.proofs.turns.add_free.Goals as goal

pub loop-place-init : goal.loop-place-init
loop-place-init c = of-none c.args.containers.now c.args.made.now c.args.free.now

pub add_if_free-requires : goal.add_if_free-requires
add_if_free-requires c =
    let places = c.args.places.now in
    let k = c.loop-place.place-index in
    record {
      made = c.requires.made;
      place = c.requires.places (get_or places k 0) (Contains-get_or places k 0 c.loop-place-test.true);
    }

pub loop-place-preserved : goal.loop-place-preserved
loop-place-preserved c =
    let above = c.args.containers.now in
    let made = c.args.made.now in
    let places = c.args.places.now in
    let k = c.loop-place.place-index in
    let more = of-more above made c.args.free.now (take k places) (get_or places k 0) c.loop-place.free c.add_if_free.new.free c.loop-place.invariant c.in_ok-add_if_free.ensures in
    subst (λ l. AreFreeOf above made c.args.free.now l c.add_if_free.new.free) (sym (take_more places k 0 c.loop-place-test.true)) more

pub returns : goal.returns
returns c =
    subst (λ l. AreFreeOf c.args.containers.now c.args.made.now c.args.free.now l c.loop-place.free)
    (take_all c.loop-place.place-index c.args.places.now c.loop-place-test.false) c.loop-place.invariant
