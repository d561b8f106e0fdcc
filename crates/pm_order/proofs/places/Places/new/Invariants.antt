use Rattle.std.proofs.Common.{◌≡◌, map, take}
use Rattle.pm_policy.specs.declared.policy.DocElement.{DocElement}
use Rattle.pm_order.proofs.places.Places.new.Given as goal

abbrev pub invariant-loop-element : goal.invariant-loop-element
invariant-loop-element l = l.names.keys ≡ map (λ (e : DocElement). e.name) (take l.element-index l.elements)
