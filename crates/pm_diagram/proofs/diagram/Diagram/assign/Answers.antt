use Rattle.std.proofs.Common.{ap, sym, ◌∙◌}
use Rattle.pm_elements.specs.Listed.{Listed}
use Rattle.pm_diagram.proofs.Drawing.{drawn-again, drawn-assigned, inside-listed}
use Rattle.pm_diagram.proofs.diagram.Diagram.assign.Goals as goal

pub invariant_of-self-then-contains : goal.invariant_of-self-then-contains
invariant_of-self-then-contains c =
    let table = c.self.inside.elements in
    let made = c.in_ok-assign.ensures.ok in
    rw (ap (λ (v : Listed). v.elements) made, ap (λ (v : Listed). v.assigned) made)
    (drawn-again table.elements table.assigned c.self.inside.rows.rows c.self.invariant c.args.x c.args.y (rw (← c.self.view_is) at c.requires.x_live)
    (rw (← c.self.view_is) at c.requires.y_live) (sym (rw (← c.self.view_is) at c.if-contains.ensures)))

pub invariant_of-self-2 : goal.invariant_of-self-2
invariant_of-self-2 c =
    let made = c.in_ok-assign-2.ensures.ok in
    rw (ap (λ (v : Listed). v.elements) made, ap (λ (v : Listed). v.assigned) made)
    (drawn-assigned c.self.inside.elements.elements c.self.inside.elements.assigned c.self.inside.rows.rows c.self.invariant c.args.x c.args.y
    c.follow_assign.new.self.rows (rw (← c.self.view_is) at c.requires.x_live) (rw (← c.self.view_is) at c.requires.y_live)
    (rw (c.in_ok-prepare.ensures.rows) at c.follow_assign.ensures.rows))

pub returns-then-contains-clause-count : goal.returns-then-contains-clause-count
returns-then-contains-clause-count c =
    rw (← c.self.view_is) (c.in_ok-same.ensures
    ∙ inside-listed c.self.inside.elements.elements c.self.inside.elements.assigned c.self.inside.rows.rows c.self.invariant c.args.x)

pub returns-clause-count : goal.returns-clause-count
returns-clause-count c =
    rw (← c.self.view_is) ((rw (c.in_ok-prepare.ensures.rows) at c.follow_assign.ensures.count)
    ∙ inside-listed c.self.inside.elements.elements c.self.inside.elements.assigned c.self.inside.rows.rows c.self.invariant c.args.x)
