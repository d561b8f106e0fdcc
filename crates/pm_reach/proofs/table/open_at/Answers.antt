-- The page has the same rows, and a place more where it had none.
use Rattle.std.proofs.Common.{◌∙◌, ◌/◌, ◌%◌, ap}
use Rattle.std.proofs.lemmas.Result.{on_ok_weaker}
use Rattle.pm_reach.specs.Table.{shown}
use Rattle.pm_reach.proofs.Pages.{swapped, swapped-same, places-own}
use Rattle.pm_reach.proofs.table.open_at.Goals as goal

pub returns-clause-rows : goal.returns-clause-rows
returns-clause-rows c =
    let s = swapped c.own_page.new.pages.items c.take_page-page.new.pages.items c.put_page.new.pages.items _ _ _ c.take_page-page.ensures.page c.take_page-page.ensures.pages c.put_page.ensures in
    swapped-same s (rw c.get_mut.ensures.value (ap shown c.reserve_place-result.ensures.same)) ∙ c.own_page.ensures.rows

pub returns-clause-open : goal.returns-clause-open
returns-clause-open c =
    let s = swapped c.own_page.new.pages.items c.take_page-page.new.pages.items c.put_page.new.pages.items _ _ _ c.take_page-page.ensures.page c.take_page-page.ensures.pages c.put_page.ensures in
    on_ok_weaker c.reserve_place-result.result (places-own c.put_page.new.pages.items (c.args.x / 64) (c.args.x % 64) _ s.is) c.reserve_place-result.ensures.room
