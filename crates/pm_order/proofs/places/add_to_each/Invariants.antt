use Rattle.std.proofs.Common.{take}
use Rattle.pm_order.specs.Ranked.{AreAdded}
use Rattle.pm_order.proofs.places.add_to_each.Given as goal

abbrev pub invariant-loop-place : goal.invariant-loop-place
invariant-loop-place l = AreAdded l.item (take l.place-index l.places) l.fn.lists l.lists
