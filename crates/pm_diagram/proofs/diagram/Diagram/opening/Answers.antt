use Rattle.std.proofs.Common.{arith}
use Rattle.pm_model.specs.State.{opening_elements}
use Rattle.pm_reach.specs.Rows.{most}
use Rattle.pm_diagram.proofs.Counting.{each-few}
use Rattle.pm_diagram.proofs.diagram.Diagram.opening.Goals as goal

pub invariant_of-result : goal.invariant_of-result
invariant_of-result c =
    rw (c.in_ok-elements.ensures.elements, c.in_ok-elements.ensures.assigned)
    record { live = c.in_ok-rows.ensures.live; told = c.in_ok-rows.ensures.rows; joined = search; rising = grind arith; few = each-few most opening_elements (grind arith) }
