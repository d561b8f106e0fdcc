use Rattle.std.proofs.Common.{◌≡◌, take}
use Rattle.pm_kept.proofs.places.copy_all.Given as goal

abbrev pub invariant-loop-item : goal.invariant-loop-item
invariant-loop-item l = l.same.items ≡ take l.item-index l.items.items
