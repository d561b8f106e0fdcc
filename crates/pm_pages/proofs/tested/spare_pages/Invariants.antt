use Rattle.std.proofs.Common.{◌≡◌, ◌++◌, map, take, drop}
use Rattle.pm_pages.specs.Listed.{spared}
use Rattle.pm_pages.proofs.tested.spare_pages.Given as goal

abbrev pub ghost-spare_at : goal.ghost-spare_at
ghost-spare_at g a = g.passes

abbrev pub invariant-loop-k : goal.invariant-loop-k
invariant-loop-k g l = l.pages.items ≡ map (spared g.passes) (take l.k l.initial.pages.items) ++ drop l.k l.initial.pages.items
