-- One place of one page has a row.
use Rattle.std.proofs.Common.{◌∙◌, refl}
use Rattle.pm_reach.proofs.Tables.{shown-others}
use Rattle.pm_reach.proofs.Pages.{swapped, swapped-others, rows-new, open-own, open-page}
use Rattle.pm_reach.proofs.table.put_within.Goals as goal

pub take_page-page-requires : goal.take_page-page-requires
take_page-page-requires c = open-own c.args.pages.now.items c.args.x c.requires

pub place_row-requires : goal.place_row-requires
place_row-requires c = rw (← c.get_mut.ensures.value) (open-page c.args.pages.now.items c.args.x c.take_page-page.result c.take_page-page.ensures.page c.requires)

pub returns-clause-row : goal.returns-clause-row
returns-clause-row c =
    let s = swapped c.args.pages.now.items c.take_page-page.new.pages.items c.put_page.new.pages.items _ _ _ c.take_page-page.ensures.page c.take_page-page.ensures.pages c.put_page.ensures in
    rows-new s c.args.x refl ∙ c.place_row.ensures.row

pub returns-clause-others : goal.returns-clause-others
returns-clause-others c y ne =
    let s = swapped c.args.pages.now.items c.take_page-page.new.pages.items c.put_page.new.pages.items _ _ _ c.take_page-page.ensures.page c.take_page-page.ensures.pages c.put_page.ensures in
    swapped-others c.args.x s (shown-others c.take_page-page.result.rows.items c.place_row.new.rows.items _ (rw c.get_mut.ensures.value c.place_row.ensures.others)) y ne
