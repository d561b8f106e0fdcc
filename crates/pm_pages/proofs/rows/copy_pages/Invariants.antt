use Rattle.std.proofs.Common.{◌≡◌, map, take}
use Rattle.pm_pages.specs.Listed.{items_of}
use Rattle.pm_pages.proofs.rows.copy_pages.Given as goal

abbrev pub invariant-loop-page : goal.invariant-loop-page
invariant-loop-page g l = map items_of l.same.items ≡ map items_of (take l.page-index l.pages)
