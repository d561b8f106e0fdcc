-- The items up to the place stand.
use Rattle.std.proofs.Common.{Ok, false, map, take}
use Rattle.pm_model.specs.declared.memory.Memory.{Memory}
use Rattle.pm_print.specs.Growth.{Adds}
use Rattle.pm_print.specs.Members.{items_front}
use Rattle.pm_document_text.proofs.told.add_items.Given as goal

abbrev pub invariant-loop-i : goal.invariant-loop-i
invariant-loop-i g l = Adds {E = Memory} l.fn.out l.out (items_front false (map g.T.Told.told (take l.i l.items))) (Ok tt)
