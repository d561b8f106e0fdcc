use Rattle.std.proofs.Common.{ap, arith, length, refl}
use Rattle.std.proofs.lemmas.Option.{slice_get_read}
use Rattle.pm_pages.specs.Listed.{items_of}
use Rattle.pm_pages.proofs.Spots.{piece_read}
use Rattle.pm_pages.proofs.items.item_at.Goals as goal

pub offset_bounds-items-spot : goal.offset_bounds-items-spot
offset_bounds-items-spot g c =
    let l = ap length (piece_read items_of c.args.pages.now c.args.spot.page c.index-pages-spot.result c.requires.page c.index-pages-spot.is) in
    let m = ap length c.items.ensures in
    omega (arith, l, m, c.requires.offset)

pub bounds-items-spot : goal.bounds-items-spot
bounds-items-spot g c =
    let l = ap length (piece_read items_of c.args.pages.now c.args.spot.page c.index-pages-spot.result c.requires.page c.index-pages-spot.is) in
    let m = ap length c.items.ensures in
    omega (arith, l, m, c.requires.offset)

pub returns : goal.returns
returns g c =
    let read = piece_read items_of c.args.pages.now c.args.spot.page c.index-pages-spot.result c.requires.page c.index-pages-spot.is in
    let l = ap length read in
    let m = ap length c.items.ensures in
    rw (read, ← c.items.ensures) (slice_get_read c.items.result.now (length c.items.result.now) c.args.spot.offset c.index-items-spot.result refl (omega (arith, l, m, c.requires.offset)) c.index-items-spot.is)
