use Rattle.std.proofs.Common.{◌<◌, ap, arith, length}
use Rattle.std.proofs.lemmas.List.Edits.{length-insert}
use Rattle.pm_pages.specs.Paged.{Paged}
use Rattle.pm_pages.specs.Listed.{items_of, listed}
use Rattle.pm_pages.proofs.Spots.{length-starts}
use Rattle.pm_pages.proofs.list.PageList.insert_before.Goals as goal

pub restart-self-inside-requires-clause-places : goal.restart-self-inside-requires-clause-places
restart-self-inside-requires-clause-places g c =
    let e = ap length c.deref-3.ensures.value in
    let p = c.in_ok-put_item.ensures.pages in
    let s = ap length c.self.invariant.starts in
    let l = length-starts items_of 0 c.self.inside.pages.items in
    omega (arith, e, p, s, l, c.in_ok-reserve.ensures.len, c.in_ok-reserve.ensures.ok, c.self.inside.starts.ok)

pub restart-self-inside-requires-clause-most : goal.restart-self-inside-requires-clause-most
restart-self-inside-requires-clause-most g c =
    let spot = rw c.deref.ensures.value at c.find-spot.ensures.spot in
    let e = ap (λ ps. length (listed ps)) c.deref-3.ensures.value in
    let r = ap length (c.in_ok-put_item.ensures.items c.args.i spot) in
    let v = ap (λ (p : Paged g.row.T.Denot). length p.items) c.self.view_is in
    let within : c.args.i < length (listed c.self.inside.pages.items) = omega (arith, v, c.requires) in
    let l = length-insert (listed c.self.inside.pages.items) c.args.i c.args.item (omega (arith, within)) in
    omega (arith, e, r, l, c.self.invariant.counted)
