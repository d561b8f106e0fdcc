use Rattle.std.proofs.Common.{◌≡◌, take}
use Rattle.pm_model.specs.Effect.{is_from}
use Rattle.pm_drawing.specs.Gathered.{gathered}
use Rattle.pm_drawing.proofs.assignments.all_pairs.Given as goal

abbrev pub invariant-loop-id : goal.invariant-loop-id
invariant-loop-id l = l.pairs.items ≡ gathered is_from (take l.id-index l.live) l.elements.assigned
