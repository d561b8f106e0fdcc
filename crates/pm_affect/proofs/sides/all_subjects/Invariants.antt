-- The subjects so far.
use Rattle.std.proofs.Common.{◌≡◌, take}
use Rattle.pm_affect.specs.Lists.{subjects}
use Rattle.pm_affect.proofs.sides.all_subjects.Given as goal

abbrev pub invariant-loop-item : goal.invariant-loop-item
invariant-loop-item l = l.all ≡ subjects (take l.item-index l.items.items)
