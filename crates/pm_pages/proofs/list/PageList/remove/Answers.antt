use Rattle.std.proofs.Common.{ap, arith, length}
use Rattle.std.proofs.lemmas.List.Edits.{length-remove}
use Rattle.pm_pages.specs.Listed.{items_of, listed}
use Rattle.pm_pages.proofs.Spots.{spot-get, length-starts}
use Rattle.pm_pages.proofs.Owning.{own-within, own-page}
use Rattle.pm_pages.proofs.list.PageList.remove.Goals as goal

pub find-spot-requires-clause-within : goal.find-spot-requires-clause-within
find-spot-requires-clause-within g c = rw c.deref.ensures.value (own-within c.self.inside.pages.items c.args.i (rw (← c.self.view_is) at c.requires))

pub take_item-item-requires-clause-own : goal.take_item-item-requires-clause-own
take_item-item-requires-clause-own g c =
    let spot = rw c.deref.ensures.value at c.find-spot.ensures.spot in
    own-page c.self.inside.pages.items c.args.i c.find-spot.result.page c.find-spot.result.offset spot (rw (← c.self.view_is) at c.requires)

pub restart-self-inside-requires-clause-places : goal.restart-self-inside-requires-clause-places
restart-self-inside-requires-clause-places g c =
    let e = ap length c.deref-3.ensures.value in
    let p = c.take_item-item.ensures.pages in
    let s = ap length c.self.invariant.starts in
    let l = length-starts items_of 0 c.self.inside.pages.items in
    omega (arith, e, p, s, l, c.self.inside.starts.ok)

pub restart-self-inside-requires-clause-most : goal.restart-self-inside-requires-clause-most
restart-self-inside-requires-clause-most g c =
    let spot = rw c.deref.ensures.value at c.find-spot.ensures.spot in
    let e = ap (λ ps. length (listed ps)) c.deref-3.ensures.value in
    let r = ap length (c.take_item-item.ensures.items c.args.i spot) in
    let within = own-within c.self.inside.pages.items c.args.i (rw (← c.self.view_is) at c.requires) in
    let l = length-remove (listed c.self.inside.pages.items) c.args.i within in
    omega (arith, e, r, l, c.self.invariant.counted)

pub returns-clause-item : goal.returns-clause-item
returns-clause-item g c =
    rw (← c.self.view_is, spot-get items_of c.self.inside.pages.items c.args.i _ _ (rw c.deref.ensures.value at c.find-spot.ensures.spot)) c.take_item-item.ensures.item
