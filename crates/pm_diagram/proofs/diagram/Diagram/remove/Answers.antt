use Rattle.pm_elements.specs.Checks.{remove_checks}
use Rattle.pm_laws.proofs.Checks.{passed}
use Rattle.pm_diagram.proofs.Drawing.{can-remove, drawn-removed}
use Rattle.pm_diagram.proofs.diagram.Diagram.remove.Goals as goal

pub prepare-requires : goal.prepare-requires
prepare-requires c =
    let none = (passed (remove_checks c.self.inside.elements.assigned c.args.id) (rw (← c.self.view_is) at c.in_ok-check_remove.ensures.fits)).0 in
    record {
      possible = can-remove c.self.inside.elements.elements c.self.inside.elements.assigned c.self.inside.rows.rows c.self.invariant c.args.id
          none (rw (← c.self.view_is) at c.requires);
    }

pub invariant_of-self-2 : goal.invariant_of-self-2
invariant_of-self-2 c =
    let none = (passed (remove_checks c.self.inside.elements.assigned c.args.id) c.in_ok-remove.ensures.fits).0 in
    rw (c.in_ok-remove.ensures.elements, c.in_ok-remove.ensures.assigned)
    (drawn-removed c.self.inside.elements.elements c.self.inside.elements.assigned c.self.inside.rows.rows c.self.invariant c.args.id none
    c.follow_remove.new.self.rows (rw (c.in_ok-prepare.ensures.rows) at c.follow_remove.ensures.rows))
