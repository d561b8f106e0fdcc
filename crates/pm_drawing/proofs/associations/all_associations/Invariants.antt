use Rattle.std.proofs.Common.{◌≡◌, take}
use Rattle.pm_model.specs.Decision.{associations_of}
use Rattle.pm_drawing.specs.Gathered.{gathered, is_of_attribute}
use Rattle.pm_drawing.proofs.associations.all_associations.Given as goal

abbrev pub invariant-loop-id : goal.invariant-loop-id
invariant-loop-id l = l.list.items ≡ gathered is_of_attribute (take l.id-index l.live) (associations_of l.assoc.grantees)
