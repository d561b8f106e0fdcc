-- The table is kept where an element is made.
use Rattle.std.proofs.Common.{◌≡◌, ℕ, ◌+◌, ◌<◌, ◌≤◌, true, false, List, length, length-set, set, add-zero, eqb, Option, Some, None, is_some, IsSome, IfSome, option_map, bytes_eq, refl, sym, ap, ◌∙◌, arith, inl, inr}
use Rattle.std.specs.Map.{lookup}
use Rattle.std.specs.List.{list_any, count_by}
use Rattle.std.specs.Option.{option_to_list}
use Rattle.std.proofs.lemmas.Bool.{cases_eq, false≢true}
use Rattle.std.proofs.lemmas.List.Sums.{count_by-le-length}
use Rattle.pm_model.specs.State.{is_named, number_named}
use Rattle.pm_model.specs.Effect.{max_elements, max_assignments, is_pair, is_to, placed, with_pair, with_assignment}
use Rattle.pm_model.specs.Formed.{IsLive}
use Rattle.pm_model.specs.declared.elements.Element.{Element}
use Rattle.pm_model.specs.declared.elements.Kind.{Kind}
use Rattle.pm_elements.specs.declared.slots.Slot.{Slot}
use Rattle.pm_names.specs.Named.{Renames}
use Rattle.pm_elements.specs.Kept.{Held, Kept, Named}
use Rattle.pm_elements.specs.Slots.{shown, pairs_of, slot_at, element_of, first_free, opened, new_slot, joined, linked, edited, with_parent, with_child, parents_of, children_of}
use Rattle.pm_elements.proofs.Assigned.{pairs-same}
use Rattle.pm_elements.proofs.Found.{Named-placed, lookup_named, any_named}
use Rattle.pm_elements.proofs.Held.{pair_held}
use Rattle.pm_elements.proofs.Linking.{Kept-linked, pairs-linked}
use Rattle.pm_elements.proofs.Placing.{free_within, free_slot, one_more, still, shown-placed, first_free-opened, slot_at-opened, shown-opened, pairs-opened, within-opened, length-opened}
use Rattle.pm_elements.proofs.Edits.{slot_at-set_same, slot_at-set_other, edited-set, shown-edited}
use Rattle.pm_elements.proofs.Shown.{element_at-shown, slot_taken}

-- ---- a free slot more

pub Kept-opened : (slots : List (Option Slot)) (names : List (List ℕ × ℕ)) (live links : ℕ) → Kept slots names live links → length (shown slots) < max_elements → Kept (opened (first_free slots) slots) names live links
Kept-opened slots names live links h room =
    let n = first_free slots in
    record {
      held = record {
        children = λ y. ap children_of (slot_at-opened n slots y) ∙ h.held.children y ∙ sym (ap (λ l. count_by (is_to y) l) (pairs-opened n slots));
        once = λ x y. rw (pairs-opened n slots) (h.held.once x y);
      };
      named = rw (shown-opened n slots) h.named;
      counted = rw (shown-opened n slots) h.counted;
      linked = rw (pairs-opened n slots) h.linked;
      few = length-opened slots h.few room;
      few_links = h.few_links;
    }

-- ---- a new element in a slot that is free

pairs-placed : (slots : List (Option Slot)) (kind : Kind) (name : List ℕ) → pairs_of (set slots (first_free slots) (Some (new_slot kind name None))) ≡ pairs_of slots
pairs-placed slots kind name = pairs-same (first_free slots) (Some (new_slot kind name None)) slots (sym (ap parents_of (free_slot slots)))

-- where nothing is assigned to the new element, and it is assigned to nothing
Held-placed : (slots : List (Option Slot)) (kind : Kind) (name : List ℕ) → first_free slots < length slots → Held slots → Held (set slots (first_free slots) (Some (new_slot kind name None)))
Held-placed slots kind name below h = record {
  children = λ z. children z ∙ h.children z ∙ sym (ap (λ l. count_by (is_to z) l) now);
  once = λ a b. rw now (h.once a b);
} where
  n : ℕ
  n = first_free slots

  s : Slot
  s = new_slot kind name None

  now : pairs_of (set slots n (Some s)) ≡ pairs_of slots
  now = pairs-placed slots kind name

  children : (z : ℕ) → children_of (slot_at (set slots n (Some s)) z) ≡ children_of (slot_at slots z)
  children z = elim (cases_eq z n) [
    | inl same ↦ rw same (ap children_of (slot_at-set_same slots n (Some s) below) ∙ sym (ap children_of (free_slot slots)))
    | inr other ↦ ap children_of (slot_at-set_other slots n z (Some s) other)
  ]

-- a name that no element has leads nowhere
pub free_name : (es : List Element) (names : List (List ℕ × ℕ)) (name : List ℕ) → Named es names → list_any (is_named name) es ≡ false → lookup (bytes_eq name) names ≡ None
free_name es names name h free = go (number_named es name) refl where
  go : (o : Option ℕ) → number_named es name ≡ o → lookup (bytes_eq name) names ≡ None
  go None is = lookup_named es names name h ∙ is
  go (Some n) is = absurd (false≢true (sym free ∙ any_named name es ∙ ap is_some is))

Kept-placed : (slots : List (Option Slot)) (names names' : List (List ℕ × ℕ)) (live links : ℕ) (kind : Kind) (name : List ℕ) → Kept slots names live links
    → first_free slots < length slots → list_any (is_named name) (shown slots) ≡ false → Renames name (Some (first_free slots)) names names'
    → Kept (set slots (first_free slots) (Some (new_slot kind name None))) names' (live + 1) links
Kept-placed slots names names' live links kind name h below free changed =
    let n = first_free slots in
    let s = new_slot kind name None in
    let x = element_of n s in
    record {
      held = Held-placed slots kind name below h.held;
      named = rw (shown-placed slots s below)
          (Named-placed (shown slots) names names' x h.named (element_at-shown n slots ∙ ap (option_map (element_of n)) (free_slot slots)) (free_name (shown slots) names name h.named free) changed);
      counted = omega (arith, one_more slots s below, h.counted);
      linked = h.linked ∙ sym (ap (λ (l : List (ℕ × ℕ)). length l) (pairs-placed slots kind name));
      few = omega (arith, length-set slots n (Some s), h.few);
      few_links = h.few_links;
    }

-- the slots after a new element was put into its place
abbrev pub created : Kind → List ℕ → Option ℕ → List (Option Slot) → List (Option Slot)
created kind name into slots = joined into (set slots (first_free slots) (Some (new_slot kind name into)))

-- a container's assignment is made as any other is
created-linked : (slots : List (Option Slot)) (kind : Kind) (name : List ℕ) (y : ℕ)
    → created kind name (Some y) slots ≡ linked (first_free slots) y (set slots (first_free slots) (Some (new_slot kind name None)))
created-linked slots kind name y = ap (edited with_child y) (sym (edited-set (with_parent y) (first_free slots) (new_slot kind name None) slots))

placed_taken : (slots : List (Option Slot)) (s : Slot) → first_free slots < length slots → is_some (slot_at (set slots (first_free slots) (Some s)) (first_free slots)) ≡ true
placed_taken slots s below = ap is_some (slot_at-set_same slots (first_free slots) (Some s) below)

shown-created : (slots : List (Option Slot)) (kind : Kind) (name : List ℕ) (into : Option ℕ) → first_free slots < length slots
    → shown (created kind name into slots) ≡ placed (element_of (first_free slots) (new_slot kind name None)) (shown slots)
shown-created slots kind name None below = shown-placed slots (new_slot kind name None) below
shown-created slots kind name (Some y) below =
    shown-edited with_child (λ n s. refl) 0 y (set slots (first_free slots) (Some (new_slot kind name (Some y))))
    ∙ shown-placed slots (new_slot kind name (Some y)) below

pairs-created : (slots : List (Option Slot)) (kind : Kind) (name : List ℕ) (into : Option ℕ) → first_free slots < length slots
    → pairs_of (created kind name into slots) ≡ with_pair into (first_free slots) (pairs_of slots)
pairs-created slots kind name None below = pairs-placed slots kind name
pairs-created slots kind name (Some y) below =
    let n = first_free slots in
    let s = new_slot kind name None in
    ap pairs_of (created-linked slots kind name y)
    ∙ pairs-linked n y (set slots n (Some s)) (placed_taken slots s below)
    ∙ ap (with_assignment (n, y)) (pairs-placed slots kind name)

Kept-created : (slots : List (Option Slot)) (names names' : List (List ℕ × ℕ)) (live links : ℕ) (kind : Kind) (name : List ℕ) (into : Option ℕ) → Kept slots names live links
    → first_free slots < length slots → IfSome into (λ y. IsSome (slot_at slots y)) → list_any (is_named name) (shown slots) ≡ false → IfSome into (λ y. length (pairs_of slots) < max_assignments)
    → Renames name (Some (first_free slots)) names names' → Kept (created kind name into slots) names' (live + 1) (links + length (option_to_list into))
Kept-created slots names names' live links kind name None h below into_live free room changed = rw add-zero (Kept-placed slots names names' live links kind name h below free changed)
Kept-created slots names names' live links kind name (Some y) h below into_live free room changed =
    let n = first_free slots in
    let s = new_slot kind name None in
    let k = Kept-placed slots names names' live links kind name h below free changed in
    rw (created-linked slots kind name y)
    (Kept-linked (set slots n (Some s)) names' (live + 1) links n y k
    (placed_taken slots s below)
    (ap is_some (still slots s y into_live) ∙ into_live)
    (ap (list_any (is_pair n y)) (pairs-placed slots kind name)
    ∙ pair_held slots n y ∙ ap (λ (o : Option Slot). list_any (λ z. eqb z y) (parents_of o)) (free_slot slots))
    (omega (arith, h.linked, room)))

-- ---- a new element in the slots with one of its number

abbrev pub made : Kind → List ℕ → Option ℕ → List (Option Slot) → List (Option Slot)
made kind name into slots = joined into (set (opened (first_free slots) slots) (first_free slots) (Some (new_slot kind name into)))

pub opened_below : (slots : List (Option Slot)) → first_free slots < length (opened (first_free slots) slots)
opened_below slots = within-opened (first_free slots) slots (free_within slots)

still_first : (slots : List (Option Slot)) → first_free (opened (first_free slots) slots) ≡ first_free slots
still_first slots = first_free-opened (first_free slots) slots

made-created : (slots : List (Option Slot)) (kind : Kind) (name : List ℕ) (into : Option ℕ) → made kind name into slots ≡ created kind name into (opened (first_free slots) slots)
made-created slots kind name into = ap (λ n. joined into (set (opened (first_free slots) slots) n (Some (new_slot kind name into)))) (sym (still_first slots))

below-opened : (slots : List (Option Slot)) → first_free (opened (first_free slots) slots) < length (opened (first_free slots) slots)
below-opened slots = omega (arith, opened_below slots, still_first slots)

pub shown-made : (slots : List (Option Slot)) (kind : Kind) (name : List ℕ) (into : Option ℕ) → shown (made kind name into slots) ≡ placed (element_of (first_free slots) (new_slot kind name None)) (shown slots)
shown-made slots kind name into =
    ap shown (made-created slots kind name into)
    ∙ shown-created (opened (first_free slots) slots) kind name into (below-opened slots)
    ∙ rw (still_first slots, shown-opened (first_free slots) slots) refl

pub pairs-made : (slots : List (Option Slot)) (kind : Kind) (name : List ℕ) (into : Option ℕ) → pairs_of (made kind name into slots) ≡ with_pair into (first_free slots) (pairs_of slots)
pairs-made slots kind name into =
    ap pairs_of (made-created slots kind name into)
    ∙ pairs-created (opened (first_free slots) slots) kind name into (below-opened slots)
    ∙ rw (still_first slots, pairs-opened (first_free slots) slots) refl

pub into_opened : (slots : List (Option Slot)) (n : ℕ) (into : Option ℕ) → IfSome into (λ y. IsSome (slot_at slots y)) → IfSome into (λ y. IsSome (slot_at (opened n slots) y))
into_opened slots n None h = tt
into_opened slots n (Some y) h = ap is_some (slot_at-opened n slots y) ∙ h

pub Kept-made : (slots : List (Option Slot)) (names names' : List (List ℕ × ℕ)) (live links : ℕ) (kind : Kind) (name : List ℕ) (into : Option ℕ) → Kept slots names live links
    → IfSome into (λ y. IsSome (slot_at slots y)) → list_any (is_named name) (shown slots) ≡ false → length (shown slots) < max_elements → IfSome into (λ y. length (pairs_of slots) < max_assignments)
    → Renames name (Some (first_free slots)) names names' → Kept (made kind name into slots) names' (live + 1) (links + length (option_to_list into))
Kept-made slots names names' live links kind name into h into_live free room links_room changed =
    rw (made-created slots kind name into)
    (Kept-created (opened (first_free slots) slots) names names' live links kind name into (Kept-opened slots names live links h room)
    (below-opened slots) (into_opened slots (first_free slots) into into_live)
    (rw (shown-opened (first_free slots) slots) free)
    (rw (pairs-opened (first_free slots) slots) links_room)
    (rw (still_first slots) changed))

pub live_into : (slots : List (Option Slot)) (into : Option ℕ) → IfSome into (IsLive (shown slots)) → IfSome into (λ y. IsSome (slot_at slots y))
live_into slots None h = tt
live_into slots (Some y) h = slot_taken slots y h

-- no slot counts more children than there are assignments
pub few_children : (slots : List (Option Slot)) (names : List (List ℕ × ℕ)) (live links y : ℕ) → Kept slots names live links → children_of (slot_at slots y) ≤ max_assignments
few_children slots names live links y h = omega (arith, h.held.children y, count_by-le-length (is_to y) (pairs_of slots), h.linked, h.few_links)

pub few_opened : (slots : List (Option Slot)) (names : List (List ℕ × ℕ)) (live links n : ℕ) (into : Option ℕ) → Kept slots names live links
    → IfSome into (λ y. children_of (slot_at (opened n slots) y) < 4294967295)
few_opened slots names live links n None h = tt
few_opened slots names live links n (Some y) h = rw (slot_at-opened n slots y) (omega (arith, few_children slots names live links y h))
