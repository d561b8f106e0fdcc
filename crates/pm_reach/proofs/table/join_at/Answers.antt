-- One row of one page has more.
use Rattle.std.proofs.Common.{◌/◌, refl}
use Rattle.std.specs.Vec.{with_item}
use Rattle.pm_reach.specs.declared.shared.HeldPage.TheVariants.{Own}
use Rattle.pm_reach.proofs.Tables.{some-own}
use Rattle.pm_reach.proofs.Pages.{page_written, ready-own, rows-new, rows-old, ready-page, writes-page}
use Rattle.pm_reach.proofs.table.join_at.Goals as goal

pub join_row-requires : goal.join_row-requires
join_row-requires c =
    let s = page_written c.args.pages.now.items (c.args.x / 64) c.index_mut.result.now c.in-Own.page (ready-own c.args.pages.now.items c.args.x _ c.requires) c.index_mut.ensures.value c.in-Own.is in
    rw (← c.get_mut.ensures.value) (ready-page c.args.pages.now.items c.args.x _ c.in-Own.page s.was c.requires)

pub returns-clause-row : goal.returns-clause-row
returns-clause-row c q =
    let s = page_written c.args.pages.now.items (c.args.x / 64) c.index_mut.result.now (record { rows = c.join_row.new.rows }) (ready-own c.args.pages.now.items c.args.x _ c.requires) c.index_mut.ensures.value c.in-Own.is in
    rw (rows-new s c.args.x refl, rows-old s c.args.x refl, c.get_mut.ensures.value) (c.join_row.ensures.row q)

pub returns-clause-writes : goal.returns-clause-writes
returns-clause-writes c =
    let s = page_written c.args.pages.now.items (c.args.x / 64) c.index_mut.result.now (record { rows = c.join_row.new.rows }) (ready-own c.args.pages.now.items c.args.x _ c.requires) c.index_mut.ensures.value c.in-Own.is in
    writes-page c.args.pages.now (with_item c.args.pages.now (c.args.x / 64) (Own (record { rows = c.join_row.new.rows }))) c.args.x s
    (some-own c.in-Own.page.rows.items _ _ (ready-page c.args.pages.now.items c.args.x _ c.in-Own.page s.was c.requires)) c.join_row.ensures.live
    (rw c.get_mut.ensures.value c.join_row.ensures.others)
