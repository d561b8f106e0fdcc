use Rattle.std.proofs.Common.{◌≡◌, ◌++◌, ℕ, map, take}
use Rattle.pm_model.specs.Containment.{containers}
use Rattle.pm_drawing.proofs.assignments.push_containers.Given as goal

abbrev pub invariant-loop-i : goal.invariant-loop-i
invariant-loop-i l = l.pairs.items ≡ l.fn.pairs.items ++ map (λ (y : ℕ). let p : ℕ × ℕ = (l.id, y) in p) (take l.i (containers l.elements.assigned l.id))
