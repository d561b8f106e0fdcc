-- One assignment more, where nothing refuses it.
use Rattle.std.proofs.Common.{ap, ◌∙◌, ◌&&◌, arith}
use Rattle.pm_elements.specs.Slots.{shown, pairs_of}
use Rattle.pm_elements.proofs.Shown.{slot_taken}
use Rattle.pm_elements.proofs.Bounds.{free-linked}
use Rattle.pm_elements.proofs.Created.{few_children}
use Rattle.pm_elements.proofs.Fits.{assign_fits}
use Rattle.pm_elements.proofs.Linking.{Kept-linked, shown-linked, pairs-linked, same_table}
use Rattle.pm_elements.proofs.table.Elements.assign.Goals as goal

pub link-requires-clause-x_live : goal.link-requires-clause-x_live
link-requires-clause-x_live c = slot_taken c.self.inside.slots.items c.args.x (rw (← c.self.view_is) at c.requires.x_live)

pub link-requires-clause-y_live : goal.link-requires-clause-y_live
link-requires-clause-y_live c = slot_taken c.self.inside.slots.items c.args.y (rw (← c.self.view_is) at c.requires.y_live)

pub link-requires-clause-few : goal.link-requires-clause-few
link-requires-clause-few c =
    omega (arith, few_children c.self.inside.slots.items c.self.inside.names.items c.self.inside.live c.self.inside.links c.args.y c.self.invariant.kept)

pub invariant_of-self-2 : goal.invariant_of-self-2
invariant_of-self-2 c =
    let slots = c.self.inside.slots.items in
    let fits = assign_fits (shown slots) (pairs_of slots) c.args.x c.args.y (rw (← c.self.view_is) at c.in_ok-check_assign.ensures.fits) in
    record {
      kept =
          rw c.in_ok-link.ensures.ok
          (Kept-linked slots c.self.inside.names.items c.self.inside.live c.self.inside.links c.args.x c.args.y c.self.invariant.kept
          (slot_taken slots c.args.x (rw (← c.self.view_is) at c.requires.x_live))
          (slot_taken slots c.args.y (rw (← c.self.view_is) at c.requires.y_live))
          fits.0
          (omega (arith, fits.1, c.self.invariant.kept.linked)));
      taken = rw (c.in_ok-link.ensures.ok, free-linked c.args.x c.args.y slots) c.self.invariant.taken;
    }

pub returns-clause-ok : goal.returns-clause-ok
returns-clause-ok c =
    let slots = c.self.inside.slots.items in
    rw (← c.self.view_is)
    (same_table (ap shown c.in_ok-link.ensures.ok ∙ shown-linked c.args.x c.args.y slots)
    (ap pairs_of c.in_ok-link.ensures.ok ∙ pairs-linked c.args.x c.args.y slots (slot_taken slots c.args.x (rw (← c.self.view_is) at c.requires.x_live)))
    (ap (λ b. b && c.self.inside.names.alone) c.in_ok-link.ensures.alone))
