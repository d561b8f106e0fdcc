use Rattle.std.proofs.Common.{◌≡◌, map, take}
use Rattle.pm_drawing.specs.Gathered.{association_named}
use Rattle.pm_drawing.proofs.associations.documents.Given as goal

abbrev pub invariant-loop-association : goal.invariant-loop-association
invariant-loop-association l = l.list ≡ map (association_named l.elements.elements l.rights) (take l.association-index l.associations)
