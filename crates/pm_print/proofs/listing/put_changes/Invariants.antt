-- The items up to the place stand.
use Rattle.std.proofs.Common.{◌*◌, Ok, false, map, take}
use Rattle.pm_model.specs.Text.{change_told}
use Rattle.pm_model.specs.declared.memory.Memory.{Memory}
use Rattle.pm_print.specs.Growth.{Appended, change_most}
use Rattle.pm_print.specs.Members.{items_front}
use Rattle.pm_print.proofs.listing.put_changes.Given as goal

abbrev pub invariant-loop-i : goal.invariant-loop-i
invariant-loop-i l =
    Appended {E = Memory} l.fn.out l.out (items_front false (map change_told (take l.i l.changes))) (change_most * l.i) (Ok tt)
