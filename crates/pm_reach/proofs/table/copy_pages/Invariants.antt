use Rattle.std.proofs.Common.{◌≡◌, map, take}
use Rattle.pm_reach.specs.Table.{page_rows}
use Rattle.pm_reach.proofs.table.copy_pages.Given as goal

abbrev pub invariant-loop-page : goal.invariant-loop-page
invariant-loop-page l = map page_rows l.same.items ≡ map page_rows (take l.page-index l.pages)
