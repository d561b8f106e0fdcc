-- The items up to the place stand.
use Rattle.std.proofs.Common.{◌*◌, Ok, false, map, take}
use Rattle.pm_model.specs.Text.{pair_told}
use Rattle.pm_model.specs.declared.memory.Memory.{Memory}
use Rattle.pm_print.specs.Growth.{Appended, pair_most}
use Rattle.pm_print.specs.Members.{items_front}
use Rattle.pm_print.proofs.listing.put_pairs.Given as goal

abbrev pub invariant-loop-i : goal.invariant-loop-i
invariant-loop-i g l =
    Appended {E = Memory} l.fn.out l.out (items_front false (map (pair_told (g.N.NameOf.name_at l.names)) (take l.i l.pairs))) (pair_most * l.i) (Ok tt)
