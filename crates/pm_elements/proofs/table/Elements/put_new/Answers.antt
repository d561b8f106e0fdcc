-- One element more, at the first number that is free.
use Rattle.std.proofs.Common.{◌≡◌, ◌∙◌, ◌&&◌, sym, ap, arith}
use Rattle.std.proofs.lemmas.Result.{MatchResult-from_err}
use Rattle.pm_elements.specs.Slots.{first_free, shown, pairs_of}
use Rattle.pm_elements.proofs.Placing.{unused_shown, free_within, first_free-opened, shown-opened, pairs-opened}
use Rattle.pm_elements.proofs.Bounds.{free-made}
use Rattle.pm_elements.proofs.Created.{Kept-opened, Kept-made, shown-made, pairs-made, free_name, live_into, into_opened, few_opened}
use Rattle.pm_elements.proofs.Linking.{same_table}
use Rattle.pm_elements.proofs.table.Elements.put_new.Goals as goal

pub open_slot-requires : goal.open_slot-requires
open_slot-requires c =
    let slots = c.self.inside.slots.items in
    let here : c.unused-id.result ≡ first_free slots = c.unused-id.ensures.number ∙ rw (← c.self.view_is) (unused_shown slots) in
    omega (arith, here, free_within slots)

pub place-requires-clause-free : goal.place-requires-clause-free
place-requires-clause-free c =
    let slots = c.self.inside.slots.items in
    let here : c.unused-id.result ≡ first_free slots = c.unused-id.ensures.number ∙ rw (← c.self.view_is) (unused_shown slots) in
    here ∙ sym (first_free-opened c.unused-id.result slots) ∙ ap first_free (sym c.in_ok-open_slot.ensures.ok)

pub place-requires-clause-unknown : goal.place-requires-clause-unknown
place-requires-clause-unknown c =
    free_name (shown c.self.inside.slots.items) c.self.inside.names.items c.args.new.now.name c.self.invariant.kept.named (rw (← c.self.view_is) at c.requires.free)

pub place-requires-clause-into_live : goal.place-requires-clause-into_live
place-requires-clause-into_live c =
    let slots = c.self.inside.slots.items in
    rw c.in_ok-open_slot.ensures.ok
    (into_opened slots c.unused-id.result c.args.new.now.into (live_into slots c.args.new.now.into (rw (← c.self.view_is) at c.requires.into_live)))

pub place-requires-clause-few : goal.place-requires-clause-few
place-requires-clause-few c =
    rw c.in_ok-open_slot.ensures.ok
    (few_opened c.self.inside.slots.items c.self.inside.names.items c.self.inside.live c.self.inside.links c.unused-id.result c.args.new.now.into c.self.invariant.kept)

pub invariant_of-self-in_err-place : goal.invariant_of-self-in_err-place
invariant_of-self-in_err-place c =
    let slots = c.self.inside.slots.items in
    let here : c.unused-id.result ≡ first_free slots = c.unused-id.ensures.number ∙ rw (← c.self.view_is) (unused_shown slots) in
    record {
      kept =
          rw (c.in_err-place.ensures.slots_same, c.in_err-place.ensures.names_same, c.in_ok-open_slot.ensures.ok, here)
          (Kept-opened slots c.self.inside.names.items c.self.inside.live c.self.inside.links c.self.invariant.kept (rw (← c.self.view_is) at c.requires.few));
      taken =
          rw (c.in_err-place.ensures.slots_same, c.in_ok-open_slot.ensures.ok, first_free-opened c.unused-id.result slots) c.self.invariant.taken;
    }

pub returns-in_err-place-clause-err : goal.returns-in_err-place-clause-err
returns-in_err-place-clause-err c =
    let slots = c.self.inside.slots.items in
    let now = c.in_err-place.ensures.slots_same ∙ c.in_ok-open_slot.ensures.ok in
    MatchResult-from_err c.from_residual-in_err-place.result _ _ c.from_residual-in_err-place.ensures.0
    (λ y. same_table (ap shown now ∙ shown-opened c.unused-id.result slots) (ap pairs_of now ∙ pairs-opened c.unused-id.result slots)
    (ap (λ b. b && c.place.new.names.alone) (c.place.ensures.slots_alone ∙ c.open_slot.ensures.alone) ∙ ap (λ b. c.self.inside.slots.alone && b) c.place.ensures.names_alone)
    ∙ c.self.view_is)

pub invariant_of-self-2 : goal.invariant_of-self-2
invariant_of-self-2 c =
    let slots = c.self.inside.slots.items in
    let new = c.args.new.now in
    let here : c.unused-id.result ≡ first_free slots = c.unused-id.ensures.number ∙ rw (← c.self.view_is) (unused_shown slots) in
    record {
      kept =
          rw (c.in_ok-place.ensures.slots, c.in_ok-open_slot.ensures.ok, here, c.links.ensures)
          (Kept-made slots c.self.inside.names.items c.place.new.names.items c.self.inside.live c.self.inside.links new.kind new.name new.into c.self.invariant.kept
          (live_into slots new.into (rw (← c.self.view_is) at c.requires.into_live))
          (rw (← c.self.view_is) at c.requires.free)
          (rw (← c.self.view_is) at c.requires.few)
          (rw (← c.self.view_is) at c.requires.few_pairs)
          (rw here at c.in_ok-place.ensures.names));
      taken =
          rw (c.in_ok-place.ensures.slots, c.in_ok-open_slot.ensures.ok, here)
          (omega (arith, free-made slots new.kind new.name new.into));
    }

pub returns-clause-elements : goal.returns-clause-elements
returns-clause-elements c =
    let slots = c.self.inside.slots.items in
    let new = c.args.new.now in
    let here : c.unused-id.result ≡ first_free slots = c.unused-id.ensures.number ∙ rw (← c.self.view_is) (unused_shown slots) in
    rw (c.in_ok-place.ensures.slots, c.in_ok-open_slot.ensures.ok, here, ← c.self.view_is, unused_shown slots) (shown-made slots new.kind new.name new.into)

pub returns-clause-assigned : goal.returns-clause-assigned
returns-clause-assigned c =
    let slots = c.self.inside.slots.items in
    let new = c.args.new.now in
    let here : c.unused-id.result ≡ first_free slots = c.unused-id.ensures.number ∙ rw (← c.self.view_is) (unused_shown slots) in
    rw (c.in_ok-place.ensures.slots, c.in_ok-open_slot.ensures.ok, here, ← c.self.view_is, unused_shown slots) (pairs-made slots new.kind new.name new.into)
