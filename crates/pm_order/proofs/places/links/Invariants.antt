use Rattle.std.proofs.Common.{◌≡◌, not, map, filter, take, drop}
use Rattle.pm_order.specs.Ranked.{containers_of}
use Rattle.pm_policy.specs.Requests.{is_first}
use Rattle.pm_policy.specs.declared.policy.DocAssignment.{DocAssignment}
use Rattle.pm_order.proofs.places.links.Given as goal

abbrev pub invariant-loop-pair : goal.invariant-loop-pair
invariant-loop-pair l =
    (l.containers ≡ map (containers_of l.elements (take l.pair-index l.pairs)) l.elements)
    × (l.others.items ≡ filter (λ (p : DocAssignment). not (is_first (drop l.first l.elements) l.pairs p)) (take l.pair-index l.pairs))
