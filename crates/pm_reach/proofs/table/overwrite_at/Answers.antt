-- One row of one page was written.
use Rattle.std.proofs.Common.{◌/◌, ◌∙◌, refl, sym, ap}
use Rattle.std.specs.Vec.{with_item}
use Rattle.pm_reach.specs.Rows.{row_has}
use Rattle.pm_reach.specs.declared.shared.HeldPage.TheVariants.{Own}
use Rattle.pm_reach.proofs.Tables.{some-own}
use Rattle.pm_reach.proofs.Pages.{page_written, ready-own, rows-new, rows-old, ready-page, writes-page}
use Rattle.pm_reach.proofs.table.overwrite_at.Goals as goal

pub overwrite_row-requires-clause-ready : goal.overwrite_row-requires-clause-ready
overwrite_row-requires-clause-ready c =
    let s = page_written c.args.pages.now.items (c.args.x / 64) c.index_mut.result.now c.in-Own.page (ready-own c.args.pages.now.items c.args.x _ c.requires.ready) c.index_mut.ensures.value c.in-Own.is in
    rw (← c.get_mut.ensures.value) (ready-page c.args.pages.now.items c.args.x _ c.in-Own.page s.was c.requires.ready)

pub overwrite_row-requires-clause-less : goal.overwrite_row-requires-clause-less
overwrite_row-requires-clause-less c q h =
    let s = page_written c.args.pages.now.items (c.args.x / 64) c.index_mut.result.now c.in-Own.page (ready-own c.args.pages.now.items c.args.x _ c.requires.ready) c.index_mut.ensures.value c.in-Own.is in
    rw (← c.get_mut.ensures.value) (sym (ap (λ o. row_has o q) (rows-old s c.args.x refl)) ∙ c.requires.less q h)

pub returns-clause-row : goal.returns-clause-row
returns-clause-row c q =
    let s = page_written c.args.pages.now.items (c.args.x / 64) c.index_mut.result.now (record { rows = c.overwrite_row.new.rows }) (ready-own c.args.pages.now.items c.args.x _ c.requires.ready) c.index_mut.ensures.value c.in-Own.is in
    rw (rows-new s c.args.x refl) (c.overwrite_row.ensures.row q)

pub returns-clause-writes : goal.returns-clause-writes
returns-clause-writes c =
    let s = page_written c.args.pages.now.items (c.args.x / 64) c.index_mut.result.now (record { rows = c.overwrite_row.new.rows }) (ready-own c.args.pages.now.items c.args.x _ c.requires.ready) c.index_mut.ensures.value c.in-Own.is in
    writes-page c.args.pages.now (with_item c.args.pages.now (c.args.x / 64) (Own (record { rows = c.overwrite_row.new.rows }))) c.args.x s
    (some-own c.in-Own.page.rows.items _ _ (ready-page c.args.pages.now.items c.args.x _ c.in-Own.page s.was c.requires.ready)) c.overwrite_row.ensures.live
    (rw c.get_mut.ensures.value c.overwrite_row.ensures.others)
