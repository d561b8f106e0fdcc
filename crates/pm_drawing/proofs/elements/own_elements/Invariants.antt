use Rattle.std.proofs.Common.{◌≡◌, filter, map, take}
use Rattle.pm_drawing.specs.Gathered.{doc_numbered, is_own}
use Rattle.pm_drawing.proofs.elements.own_elements.Given as goal

abbrev pub invariant-loop-id : goal.invariant-loop-id
invariant-loop-id l = l.list.items ≡ map (doc_numbered l.elements.elements) (filter is_own (take l.id-index l.live))
