use Rattle.std.proofs.Common.{◌≡◌, filter, map, take}
use Rattle.pm_drawing.specs.Gathered.{is_own_pair, pair_named}
use Rattle.pm_drawing.proofs.assignments.own_assignments.Given as goal

abbrev pub invariant-loop-pair : goal.invariant-loop-pair
invariant-loop-pair l = l.list.items ≡ map (pair_named l.elements.elements) (filter is_own_pair (take l.pair-index l.pairs))
