use Rattle.std.proofs.Common.{sym, ◌∙◌}
use Rattle.pm_pages.specs.Listed.{items_of, without_item}
use Rattle.pm_pages.proofs.Spots.{piece_read}
use Rattle.pm_pages.proofs.Changed.{set_edited}
use Rattle.pm_pages.proofs.Owning.{own_page_read}
use Rattle.pm_pages.proofs.rows.remove_at.Goals as goal

pub remove_from-requires-clause-own : goal.remove_from-requires-clause-own
remove_from-requires-clause-own g c =
    sym (own_page_read c.args.pages.now.items c.args.k c.index_mut-page.result.now c.requires.page c.index_mut-page.ensures.value) ∙ c.requires.own

pub remove_from-requires-clause-place : goal.remove_from-requires-clause-place
remove_from-requires-clause-place g c =
    rw (← piece_read items_of c.args.pages.now.items c.args.k c.index_mut-page.result.now c.requires.page c.index_mut-page.ensures.value) c.requires.place

pub returns-clause-pages : goal.returns-clause-pages
returns-clause-pages g c =
    rw c.remove_from.ensures.page
    (set_edited (without_item c.args.j) c.args.pages.now.items c.args.k c.index_mut-page.result.now c.requires.page c.index_mut-page.ensures.value)

pub returns-clause-item : goal.returns-clause-item
returns-clause-item g c =
    rw (piece_read items_of c.args.pages.now.items c.args.k c.index_mut-page.result.now c.requires.page c.index_mut-page.ensures.value) c.remove_from.ensures.item
