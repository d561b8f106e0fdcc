use Rattle.std.proofs.Common.{◌≡◌, map, take}
use Rattle.pm_drawing.specs.Gathered.{ends_entry}
use Rattle.pm_drawing.proofs.associations.entries.Given as goal

abbrev pub invariant-loop-association : goal.invariant-loop-association
invariant-loop-association l = l.entries.items ≡ map (ends_entry l.elements.elements) (take l.association-index l.associations)
