-- The page has the same rows.
use Rattle.std.proofs.Common.{◌∙◌, ap, sym, arith}
use Rattle.pm_reach.specs.Table.{is_own}
use Rattle.pm_reach.proofs.Pages.{page_put, swapped-same, swapped-stays, no-room}
use Rattle.pm_reach.proofs.table.own_page.Goals as goal

pub returns-clause-rows : goal.returns-clause-rows
returns-clause-rows c =
    let s = page_put c.args.pages.now.items c.put_page.new.pages.items c.args.k c.index-held.result.now _ (omega (arith, c.requires, c.args.pages.now.ok.0)) c.index-held.ensures c.put_page.ensures in
    swapped-same s c.in_ok-page.ensures

pub returns-clause-own : goal.returns-clause-own
returns-clause-own c =
    let s = page_put c.args.pages.now.items c.put_page.new.pages.items c.args.k c.index-held.result.now _ (omega (arith, c.requires, c.args.pages.now.ok.0)) c.index-held.ensures c.put_page.ensures in
    ap is_own s.is

pub returns-clause-stays : goal.returns-clause-stays
returns-clause-stays c =
    let s = page_put c.args.pages.now.items c.put_page.new.pages.items c.args.k c.index-held.result.now _ (omega (arith, c.requires, c.args.pages.now.ok.0)) c.index-held.ensures c.put_page.ensures in
    swapped-stays s (λ i n r. absurd (no-room c.index-held.result.now (sym c.is_own.ensures ∙ c.if-is_own.false) i n r))
