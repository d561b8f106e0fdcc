-- The page has the same rows.
use Rattle.std.proofs.Common.{refl, arith}
use Rattle.pm_reach.proofs.Pages.{page_put, swapped-same}
use Rattle.pm_reach.proofs.table.share_rows_at.Goals as goal

pub returns-in-Own-clause-rows : goal.returns-in-Own-clause-rows
returns-in-Own-clause-rows c =
    let s = page_put c.args.pages.now.items _ c.args.k c.index_mut.result.now _ (omega (arith, c.requires, c.args.pages.now.ok.0)) c.index_mut.ensures.value refl in
    swapped-same s (rw (c.in-Own.is, c.get_mut.ensures.value) c.share_rows.ensures)
