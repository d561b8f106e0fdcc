-- One place of one page has no row any more.
use Rattle.std.proofs.Common.{◌∙◌, refl}
use Rattle.pm_reach.proofs.Tables.{shown-others}
use Rattle.pm_reach.proofs.Pages.{swapped, swapped-others, rows-new, open-own, has-page}
use Rattle.pm_reach.proofs.table.clear_at.Goals as goal

pub take_page-page-requires : goal.take_page-page-requires
take_page-page-requires c = open-own c.args.pages.now.items c.args.x c.requires.open

pub clear_row-requires : goal.clear_row-requires
clear_row-requires c = rw (← c.get_mut.ensures.value) (has-page c.args.pages.now.items c.args.x c.take_page-page.result c.take_page-page.ensures.page c.requires.live)

pub returns-clause-gone : goal.returns-clause-gone
returns-clause-gone c =
    let s = swapped c.args.pages.now.items c.take_page-page.new.pages.items c.put_page.new.pages.items _ _ _ c.take_page-page.ensures.page c.take_page-page.ensures.pages c.put_page.ensures in
    rows-new s c.args.x refl ∙ c.clear_row.ensures.none

pub returns-clause-others : goal.returns-clause-others
returns-clause-others c y ne =
    let s = swapped c.args.pages.now.items c.take_page-page.new.pages.items c.put_page.new.pages.items _ _ _ c.take_page-page.ensures.page c.take_page-page.ensures.pages c.put_page.ensures in
    swapped-others c.args.x s (shown-others c.take_page-page.result.rows.items c.clear_row.new.rows.items _ (rw c.get_mut.ensures.value c.clear_row.ensures.others)) y ne
