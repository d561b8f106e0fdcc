-- What the slots tell of the assignments.
use Rattle.std.proofs.Common.{◌≡◌, ℕ, ◌<◌, true, false, List, length, filter, Option, Some, None, is_some, slice_get, sym, ap, ◌∙◌, arith, eqb, ltb, refl}
use Rattle.std.specs.List.{list_any, count_by}
use Rattle.std.proofs.lemmas.Bool.{ltb-false}
use Rattle.std.proofs.lemmas.List.{length-map}
use Rattle.pm_model.specs.Containment.{containers}
use Rattle.pm_model.specs.Effect.{is_pair, is_from, is_to, has_child}
use Rattle.pm_elements.specs.declared.slots.Slot.{Slot}
use Rattle.pm_elements.specs.Kept.{Held}
use Rattle.pm_elements.specs.Slots.{pairs_of, slot_at, parents_of, children_of}
use Rattle.pm_elements.proofs.Assigned.{containers_held}
use Rattle.pm_elements.proofs.Pairs.{any-count, pair_among, container_child}

pub pair_held : (slots : List (Option Slot)) (x y : ℕ) → list_any (is_pair x y) (pairs_of slots) ≡ list_any (λ z. eqb z y) (parents_of (slot_at slots x))
pair_held slots x y = pair_among (pairs_of slots) x y ∙ ap (list_any (λ z. eqb z y)) (containers_held slots x)

pub count_held : (slots : List (Option Slot)) (x : ℕ) → length (filter (is_from x) (pairs_of slots)) ≡ length (parents_of (slot_at slots x))
count_held slots x = sym (length-map (filter (is_from x) (pairs_of slots)) (λ (pair : ℕ × ℕ). pair.1)) ∙ ap (λ (l : List ℕ). length l) (containers_held slots x)

pub containers_count : (slots : List (Option Slot)) (x : ℕ) → length (containers (pairs_of slots) x) ≡ length (parents_of (slot_at slots x))
containers_count slots x = ap (λ (l : List ℕ). length l) (containers_held slots x)

pub child_held : (slots : List (Option Slot)) (y : ℕ) → Held slots → has_child (pairs_of slots) y ≡ ltb 0 (children_of (slot_at slots y))
child_held slots y h = rw (h.children y) (any-count (is_to y) (pairs_of slots))

-- where nothing is assigned to an element, it counts no child
pub no_child : (slots : List (Option Slot)) (y : ℕ) → Held slots → has_child (pairs_of slots) y ≡ false → children_of (slot_at slots y) ≡ 0
no_child slots y h none =
    let few = ltb-false 0 (count_by (is_to y) (pairs_of slots)) (sym (any-count (is_to y) (pairs_of slots)) ∙ none) in
    omega (arith, few, h.children y)

-- what x is assigned to has something assigned to it
pub parent_child : (slots : List (Option Slot)) (x i w : ℕ) → slice_get (parents_of (slot_at slots x)) i ≡ Some w → 0 < count_by (is_to w) (pairs_of slots)
parent_child slots x i w is = container_child (pairs_of slots) x i w (ap (λ (l : List ℕ). slice_get l i) (containers_held slots x) ∙ is)

children_taken : (o : Option Slot) → 0 < children_of o → is_some o ≡ true
children_taken None h = absurd (omega arith)
children_taken (Some s) h = refl

-- what a live element is assigned to is live
pub parent_taken : (slots : List (Option Slot)) (x i w : ℕ) → Held slots → slice_get (parents_of (slot_at slots x)) i ≡ Some w → is_some (slot_at slots w) ≡ true
parent_taken slots x i w h is = children_taken (slot_at slots w) (omega (arith, h.children w, parent_child slots x i w is))
