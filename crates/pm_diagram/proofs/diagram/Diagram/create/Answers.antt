use Rattle.std.proofs.Common.{length, arith, sym, ◌∙◌}
use Rattle.std.proofs.lemmas.Bool.{leb-false}
use Rattle.pm_model.specs.Effect.{create_checks, max_elements}
use Rattle.pm_model.specs.State.{element}
use Rattle.pm_laws.proofs.Checks.{passed}
use Rattle.pm_diagram.proofs.Drawing.{can-make, drawn-made}
use Rattle.pm_diagram.proofs.diagram.Diagram.create.Goals as goal

pub prepare-requires : goal.prepare-requires
prepare-requires c =
    let es = c.self.inside.elements.elements in
    let tests = passed (create_checks es c.self.inside.elements.assigned c.args.kind c.args.name c.args.into) c.in_ok-check_create.ensures.fits in
    let few = leb-false max_elements (length es) tests.1.1.0 in
    record {
      possible = can-make es c.self.inside.elements.assigned c.self.inside.rows.rows c.self.invariant
          (element c.unused-x.result c.args.kind c.args.name) c.self.inside.rows.rows c.unused-x.ensures.number c.args.into
          (rw (← c.self.view_is) at c.requires) (omega (arith, few, c.unused-x.ensures.few));
    }

pub invariant_of-self-2 : goal.invariant_of-self-2
invariant_of-self-2 c =
    rw (c.in_ok-id.ensures.elements, c.in_ok-id.ensures.assigned, ← c.unused-x.ensures.number)
    (drawn-made c.self.inside.elements.elements c.self.inside.elements.assigned c.self.inside.rows.rows c.self.invariant
    (element c.unused-x.result c.args.kind c.args.name) c.follow_make.new.self.rows c.unused-x.ensures.number c.args.into
    (rw (← c.self.view_is) at c.requires) (rw (c.unused-x.ensures.number ∙ sym c.in_ok-id.ensures.number) c.in_ok-id.ensures.few) (rw (c.in_ok-prepare.ensures.rows) at c.follow_make.ensures.rows))
