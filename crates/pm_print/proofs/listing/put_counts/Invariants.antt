-- The items up to the place stand.
use Rattle.std.proofs.Common.{◌*◌, Ok, false, map, take}
use Rattle.std.specs.List.{zip}
use Rattle.pm_model.specs.Text.{count_told}
use Rattle.pm_model.specs.declared.memory.Memory.{Memory}
use Rattle.pm_print.specs.Growth.{Appended, pair_most}
use Rattle.pm_print.specs.Members.{items_front}
use Rattle.pm_print.proofs.listing.put_counts.Given as goal

abbrev pub invariant-loop-i : goal.invariant-loop-i
invariant-loop-i g l =
    Appended {E = Memory} l.fn.out l.out (items_front false (map (count_told (g.N.NameOf.name_at l.names)) (take l.i (zip l.users l.counts)))) (pair_most * l.i) (Ok tt)
