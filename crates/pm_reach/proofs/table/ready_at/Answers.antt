-- The page, and in it the row, has the same words.
use Rattle.std.proofs.Common.{◌∙◌, ◌/◌}
use Rattle.std.proofs.lemmas.Result.{on_ok_weaker}
use Rattle.pm_reach.proofs.Pages.{page_written, swapped-same, swapped-room, swapped-stays}
use Rattle.pm_reach.proofs.table.ready_at.Goals as goal

pub returns-clause-rows : goal.returns-clause-rows
returns-clause-rows c =
    let s = page_written c.own_page.new.pages.items (c.args.x / 64) c.index_mut.result.now (record { rows = c.ready_row.new.rows }) c.in_ok-own_page.ensures.own c.index_mut.ensures.value c.in-Own.is in
    swapped-same s (rw c.get_mut.ensures.value c.ready_row.ensures.rows) ∙ c.own_page.ensures.rows

pub returns-clause-room : goal.returns-clause-room
returns-clause-room c =
    let s = page_written c.own_page.new.pages.items (c.args.x / 64) c.index_mut.result.now (record { rows = c.ready_row.new.rows }) c.in_ok-own_page.ensures.own c.index_mut.ensures.value c.in-Own.is in
    on_ok_weaker c.ready_row.result (swapped-room c.args.x s c.args.n) c.ready_row.ensures.room

pub returns-clause-stays : goal.returns-clause-stays
returns-clause-stays c =
    let s = page_written c.own_page.new.pages.items (c.args.x / 64) c.index_mut.result.now (record { rows = c.ready_row.new.rows }) c.in_ok-own_page.ensures.own c.index_mut.ensures.value c.in-Own.is in
    λ y n h. swapped-stays s (rw c.get_mut.ensures.value c.ready_row.ensures.stays) y n (c.own_page.ensures.stays y n h)
