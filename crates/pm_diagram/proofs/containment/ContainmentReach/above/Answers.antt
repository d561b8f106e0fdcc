use Rattle.pm_diagram.proofs.Telling.{told-again}
use Rattle.pm_diagram.proofs.containment.ContainmentReach.above.Goals as goal

pub invariant_of-self : goal.invariant_of-self
invariant_of-self c = told-again c.self.inside.diagram.now c.self.inside.rows c.above.new.self c.above.ensures.same c.self.invariant
