use Rattle.std.proofs.Common.{◌≡◌, map, take}
use Rattle.pm_model.specs.State.{name_numbered}
use Rattle.pm_drawing.proofs.prohibitions.names_at.Given as goal

abbrev pub invariant-loop-id : goal.invariant-loop-id
invariant-loop-id l = l.list ≡ map (name_numbered l.elements.elements) (take l.id-index l.id-items)
