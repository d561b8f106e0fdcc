-- One element less, to which nothing was assigned.
use Rattle.std.proofs.Common.{◌≡◌, ◌-◌, sym, ◌∙◌, arith, false, true, is_some, length}
use Rattle.pm_model.specs.Effect.{has_child}
use Rattle.pm_elements.specs.Slots.{slot_at, pairs_of, parents_of}
use Rattle.pm_elements.proofs.Bounds.{free-removed}
use Rattle.pm_elements.proofs.Held.{count_held}
use Rattle.pm_elements.proofs.Shown.{slot_taken}
use Rattle.pm_elements.proofs.Removing.{Kept-removed, shown-removed, pairs-removed, parents_stay, one_less, length-from}
use Rattle.pm_elements.proofs.table.Elements.remove.Goals as goal

pub take_out-requires-clause-live : goal.take_out-requires-clause-live
take_out-requires-clause-live c = slot_taken c.self.inside.slots.items c.args.id (rw (← c.self.view_is) at c.requires)

pub take_out-requires-clause-parents_live : goal.take_out-requires-clause-parents_live
take_out-requires-clause-parents_live c =
    let slots = c.self.inside.slots.items in
    let none : has_child (pairs_of slots) c.args.id ≡ false = rw (← c.self.view_is) at (sym c.has_children.ensures ∙ c.if-has_children.false) in
    parents_stay slots c.args.id c.self.invariant.kept.held none

pub overflow_sub-self-2 : goal.overflow_sub-self-2
overflow_sub-self-2 c =
    let slots = c.self.inside.slots.items in
    let from : c.containers-links.result ≡ length (parents_of (slot_at slots c.args.id)) = c.containers-links.ensures ∙ rw (← c.self.view_is) (count_held slots c.args.id) in
    omega (arith, from, length-from c.args.id slots, c.self.invariant.kept.linked)

pub invariant_of-self-2 : goal.invariant_of-self-2
invariant_of-self-2 c =
    let slots = c.self.inside.slots.items in
    let live = c.self.inside.live in
    let links = c.self.inside.links in
    let there : is_some (slot_at slots c.args.id) ≡ true = slot_taken slots c.args.id (rw (← c.self.view_is) at c.requires) in
    let none : has_child (pairs_of slots) c.args.id ≡ false = rw (← c.self.view_is) at (sym c.has_children.ensures ∙ c.if-has_children.false) in
    let from : c.containers-links.result ≡ length (parents_of (slot_at slots c.args.id)) = c.containers-links.ensures ∙ rw (← c.self.view_is) (count_held slots c.args.id) in
    record {
      kept =
          rw c.in_ok-take_out.ensures.slots
          (Kept-removed slots c.self.inside.names.items c.take_out.new.names.items live (live - 1) links (links - c.containers-links.result) c.args.id c.self.invariant.kept there none c.in_ok-take_out.ensures.names
          (omega (arith, one_less c.args.id slots there, c.self.invariant.kept.counted))
          (omega (arith, from, length-from c.args.id slots, c.self.invariant.kept.linked)));
      taken =
          rw c.in_ok-take_out.ensures.slots (free-removed _ c.args.id slots (grind (arith, c.min-self-inside.ensures, c.self.invariant.taken)) (grind (arith, c.min-self-inside.ensures)));
    }

pub returns-clause-elements : goal.returns-clause-elements
returns-clause-elements c = rw (c.in_ok-take_out.ensures.slots, ← c.self.view_is) (shown-removed c.args.id c.self.inside.slots.items)

pub returns-clause-assigned : goal.returns-clause-assigned
returns-clause-assigned c = rw (c.in_ok-take_out.ensures.slots, ← c.self.view_is) (pairs-removed c.args.id c.self.inside.slots.items)
