-- The other container is held beside the assignment, and is contained in y.
use Rattle.std.proofs.Common.{sym, ap, ◌∙◌, not, eq-eqb}
use Rattle.std.proofs.lemmas.Bool.{true≢false}
use Rattle.pm_model.proofs.ContainmentLaws.{containers-contains}
use Rattle.pm_laws.proofs.Items.{get-contains}
use Rattle.pm_diagram.proofs.Drawing.{inside-beside}
use Rattle.pm_diagram.proofs.diagram.Diagram.is_inside_beside.Goals as goal

pub returns-then-contains : goal.returns-then-contains
returns-then-contains c =
    let table = c.self.inside.elements in
    let other = c.parent-other.result in
    let held = containers-contains table.assigned c.args.x other (get-contains _ _ other c.parent-other.ensures.answer) in
    rw (← c.self.view_is)
    (λ t stands. inside-beside table.elements table.assigned c.self.inside.rows.rows c.self.invariant c.args.x c.args.y other c.ordered.ensures
    (rw (← c.self.view_is) at c.requires.x_live) held
    (λ e. true≢false (sym c.if-ne.true ∙ c.ne.ensures ∙ ap not (eq-eqb other c.args.x e)))
    (λ e. true≢false (sym c.if-ne-2.true ∙ c.ne-then-ne.ensures ∙ ap not (eq-eqb other c.args.y e)))
    (sym c.contains.ensures ∙ c.if-contains.true) stands)
