use Rattle.std.proofs.Common.{ap, ◌∙◌}
use Rattle.std.proofs.lemmas.Bool.{not-false}
use Rattle.std.specs.List.{list_any}
use Rattle.pm_elements.specs.Listed.{Listed}
use Rattle.pm_model.specs.Effect.{is_pair, deassign_checks}
use Rattle.pm_laws.proofs.Checks.{passed}
use Rattle.pm_diagram.proofs.Drawing.{drawn-beside, drawn-deassigned, inside-listed, told-without}
use Rattle.pm_diagram.proofs.diagram.Diagram.deassign.Goals as goal

pub follow_deassign-requires-clause-was : goal.follow_deassign-requires-clause-was
follow_deassign-requires-clause-was c =
    let assigned = c.self.inside.elements.assigned in
    let stands = not-false (list_any (is_pair c.args.x c.args.y) assigned)
    (passed (deassign_checks assigned c.args.x c.args.y) c.in_ok-deassign-2.ensures.fits).0 in
    rw (c.in_ok-prepare.ensures.rows, ap (λ (v : Listed). v.assigned) c.in_ok-deassign-2.ensures.ok)
    (told-without c.self.inside.elements.elements assigned c.self.inside.rows.rows c.self.invariant c.args.x c.args.y stands)

pub invariant_of-self-then-is_inside_beside : goal.invariant_of-self-then-is_inside_beside
invariant_of-self-then-is_inside_beside c =
    let table = c.self.inside.elements in
    let less = c.in_ok-deassign.ensures.ok in
    let stands = not-false (list_any (is_pair c.args.x c.args.y) table.assigned)
    (passed (deassign_checks table.assigned c.args.x c.args.y) c.in_ok-check_deassign.ensures.fits).0 in
    rw (ap (λ (v : Listed). v.elements) less, ap (λ (v : Listed). v.assigned) less)
    (drawn-beside table.elements table.assigned c.self.inside.rows.rows c.self.invariant c.args.x c.args.y stands
    ((rw (← c.self.view_is) at c.is_inside_beside.ensures) c.if-is_inside_beside.true stands))

pub invariant_of-self-2 : goal.invariant_of-self-2
invariant_of-self-2 c =
    let less = c.in_ok-deassign-2.ensures.ok in
    rw (ap (λ (v : Listed). v.elements) less, ap (λ (v : Listed). v.assigned) less)
    (drawn-deassigned c.self.inside.elements.elements c.self.inside.elements.assigned c.self.inside.rows.rows c.self.invariant c.args.x c.args.y
    c.follow_deassign.new.self.rows (rw (c.in_ok-prepare.ensures.rows, ap (λ (v : Listed). v.assigned) less) at c.follow_deassign.ensures.rows))

pub returns-then-is_inside_beside-clause-count : goal.returns-then-is_inside_beside-clause-count
returns-then-is_inside_beside-clause-count c =
    rw (← c.self.view_is) (c.in_ok-kept.ensures
    ∙ inside-listed c.self.inside.elements.elements c.self.inside.elements.assigned c.self.inside.rows.rows c.self.invariant c.args.x)

pub returns-clause-count : goal.returns-clause-count
returns-clause-count c =
    rw (← c.self.view_is) ((rw (c.in_ok-prepare.ensures.rows) at c.follow_deassign.ensures.count)
    ∙ inside-listed c.self.inside.elements.elements c.self.inside.elements.assigned c.self.inside.rows.rows c.self.invariant c.args.x)
