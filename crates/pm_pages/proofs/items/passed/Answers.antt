use Rattle.std.proofs.Common.{◌≡◌, ap, sym, ◌∙◌, arith, length, refl}
use Rattle.pm_pages.specs.Listed.{items_of, is_own}
use Rattle.pm_pages.proofs.Spots.{piece_read}
use Rattle.pm_pages.proofs.Owning.{own_page_read}
use Rattle.pm_pages.proofs.items.passed.Goals as goal

pub overflow_sub-result : goal.overflow_sub-result
overflow_sub-result g c =
    let l = ap length (piece_read items_of c.args.pages.now c.args.spot.page c.index-pages-spot.result c.requires.page c.index-pages-spot.is) in
    let m = ap length c.items.ensures in
    omega (arith, l, m, c.requires.offset)

pub returns-in-Own : goal.returns-in-Own
returns-in-Own g c = λ none.
    own_page_read c.args.pages.now c.args.spot.page c.index-pages-spot.result c.requires.page c.index-pages-spot.is ∙ ap is_own c.in-Own.is

pub returns-in-Shared : goal.returns-in-Shared
returns-in-Shared g c = λ none.
    let l = ap length (piece_read items_of c.args.pages.now c.args.spot.page c.index-pages-spot.result c.requires.page c.index-pages-spot.is) in
    let m = ap length c.items.ensures in
    absurd (omega (arith, l, m, none, c.requires.offset))
