use Rattle.std.proofs.Common.{◌∙◌, length, ap, arith, refl}
use Rattle.pm_pages.specs.Listed.{items_of, marks_of, is_own, without_item}
use Rattle.pm_pages.proofs.Spots.{spot-removed}
use Rattle.pm_pages.proofs.Changed.{length-edited, all-edited, flat-emptied, length-emptied, own-emptied}
use Rattle.pm_pages.proofs.Owning.{marks-removed, length-piece}
use Rattle.pm_pages.proofs.items.take_item.Goals as goal

pub drop_empty-requires : goal.drop_empty-requires
drop_empty-requires g c =
    let e = ap length c.remove_at-item.ensures.pages in
    let l = length-edited (without_item c.args.spot.offset) c.args.spot.page c.args.pages.now.items in
    omega (arith, e, l, c.requires.page)

pub returns-clause-items : goal.returns-clause-items
returns-clause-items g c = λ i s.
    let e = c.remove_at-item.ensures.pages in
    let n = ap length e in
    let l = length-edited (without_item c.args.spot.offset) c.args.spot.page c.args.pages.now.items in
    rw (c.drop_empty.ensures) (flat-emptied items_of c.remove_at-item.new.pages.items c.args.spot.page refl (omega (arith, n, l, c.requires.page))
    ∙ rw e (spot-removed items_of (without_item c.args.spot.offset) c.args.pages.now.items i c.args.spot.page c.args.spot.offset s (λ p is. refl)))

pub returns-clause-marks : goal.returns-clause-marks
returns-clause-marks g c = λ i s.
    let e = c.remove_at-item.ensures.pages in
    let n = ap length e in
    let l = length-edited (without_item c.args.spot.offset) c.args.spot.page c.args.pages.now.items in
    rw (c.drop_empty.ensures) (flat-emptied marks_of c.remove_at-item.new.pages.items c.args.spot.page (length-piece c.remove_at-item.new.pages.items c.args.spot.page) (omega (arith, n, l, c.requires.page))
    ∙ rw e (marks-removed c.args.pages.now.items i c.args.spot.page c.args.spot.offset c.requires.page c.requires.own s))

pub returns-clause-pages : goal.returns-clause-pages
returns-clause-pages g c =
    let n = ap length c.remove_at-item.ensures.pages in
    let m = ap length c.drop_empty.ensures in
    let l = length-edited (without_item c.args.spot.offset) c.args.spot.page c.args.pages.now.items in
    let k = length-emptied c.remove_at-item.new.pages.items c.args.spot.page (omega (arith, n, l, c.requires.page)) in
    omega (arith, m, n, l, k)

pub returns-clause-stays : goal.returns-clause-stays
returns-clause-stays g c = λ all.
    rw c.drop_empty.ensures (own-emptied c.remove_at-item.new.pages.items c.args.spot.page
    (rw c.remove_at-item.ensures.pages (all-edited is_own (without_item c.args.spot.offset) (λ p h. refl) c.args.spot.page c.args.pages.now.items all)))
