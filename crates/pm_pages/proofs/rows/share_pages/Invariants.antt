use Rattle.std.proofs.Common.{◌≡◌, map}
use Rattle.pm_pages.specs.Listed.{items_of}
use Rattle.pm_pages.proofs.rows.share_pages.Given as goal

abbrev pub invariant-loop-k : goal.invariant-loop-k
invariant-loop-k g l = map items_of l.pages.items ≡ map items_of l.initial.pages.items
