use Rattle.std.proofs.Common.{◌≡◌, map, take}
use Rattle.pm_affect.specs.Lists.{copied}
use Rattle.pm_affect.proofs.sides.copy_all.Given as goal

abbrev pub invariant-loop-item : goal.invariant-loop-item
invariant-loop-item l = l.copies.items ≡ map copied (take l.item-index l.items.items)
