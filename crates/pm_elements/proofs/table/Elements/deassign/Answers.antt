-- One assignment less, where nothing refuses it.
use Rattle.std.proofs.Common.{ap, ◌∙◌, ◌&&◌}
use Rattle.pm_elements.specs.Slots.{shown, pairs_of}
use Rattle.pm_elements.proofs.Bounds.{free-unlinked}
use Rattle.pm_elements.proofs.Shown.{slot_taken}
use Rattle.pm_elements.proofs.Fits.{deassign_fits}
use Rattle.pm_elements.proofs.Linking.{Kept-unlinked, shown-unlinked, pairs-unlinked, same_table}
use Rattle.pm_elements.proofs.table.Elements.deassign.Goals as goal

pub unlink-requires-clause-x_live : goal.unlink-requires-clause-x_live
unlink-requires-clause-x_live c = slot_taken c.self.inside.slots.items c.args.x (rw (← c.self.view_is) at c.requires.x_live)

pub unlink-requires-clause-y_live : goal.unlink-requires-clause-y_live
unlink-requires-clause-y_live c = slot_taken c.self.inside.slots.items c.args.y (rw (← c.self.view_is) at c.requires.y_live)

pub invariant_of-self-2 : goal.invariant_of-self-2
invariant_of-self-2 c =
    let slots = c.self.inside.slots.items in
    record {
      kept =
          rw c.in_ok-unlink.ensures.ok
          (Kept-unlinked slots c.self.inside.names.items c.self.inside.live c.self.inside.links c.args.x c.args.y c.self.invariant.kept
          (deassign_fits (pairs_of slots) c.args.x c.args.y (rw (← c.self.view_is) at c.in_ok-check_deassign.ensures.fits)));
      taken = rw (c.in_ok-unlink.ensures.ok, free-unlinked c.args.x c.args.y slots) c.self.invariant.taken;
    }

pub returns-clause-ok : goal.returns-clause-ok
returns-clause-ok c =
    let slots = c.self.inside.slots.items in
    rw (← c.self.view_is)
    (same_table (ap shown c.in_ok-unlink.ensures.ok ∙ shown-unlinked c.args.x c.args.y slots) (ap pairs_of c.in_ok-unlink.ensures.ok ∙ pairs-unlinked c.args.x c.args.y slots)
    (ap (λ b. b && c.self.inside.names.alone) c.in_ok-unlink.ensures.alone))
