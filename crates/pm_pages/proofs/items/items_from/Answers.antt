use Rattle.std.proofs.Common.{ap, arith, length, refl}
use Rattle.pm_pages.specs.Listed.{items_of}
use Rattle.pm_pages.proofs.Spots.{piece_read}
use Rattle.pm_pages.proofs.items.items_from.Goals as goal

pub from-requires : goal.from-requires
from-requires g c =
    let l = ap length (piece_read items_of c.args.pages.now c.args.spot.page c.index-pages-spot.result c.requires.page c.index-pages-spot.is) in
    let m = ap length c.items.ensures in
    omega (arith, l, m, c.requires.offset)

pub returns : goal.returns
returns g c =
    rw (c.from.ensures, c.items.ensures, piece_read items_of c.args.pages.now c.args.spot.page c.index-pages-spot.result c.requires.page c.index-pages-spot.is) refl
