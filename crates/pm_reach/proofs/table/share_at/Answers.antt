-- The page has the same rows.
use Rattle.std.proofs.Common.{◌∙◌, ap, sym, arith}
use Rattle.pm_reach.specs.Table.{page_rows}
use Rattle.pm_reach.proofs.Pages.{page_put, swapped-same}
use Rattle.pm_reach.proofs.table.share_at.Goals as goal

pub returns-in_ok-shared-clause-rows : goal.returns-in_ok-shared-clause-rows
returns-in_ok-shared-clause-rows c =
    let pages = c.share_rows_at.new.pages in
    let s = page_put pages.items c.put_page.new.pages.items c.args.k c.index.result.now _
    (omega (arith, c.requires, c.share_rows_at.ensures.long, pages.ok.0)) c.index.ensures c.put_page.ensures in
    swapped-same s (c.in_ok-shared.ensures ∙ sym (ap page_rows c.in-Own.is)) ∙ c.share_rows_at.ensures.rows
