-- The table is kept where an assignment is made or taken away.
use Rattle.std.proofs.Common.{◌≡◌, ℕ, ◌+◌, ◌-◌, ◌<◌, Bool, true, false, not, List, [], ◌∷◌, ◌++◌, length, filter, Option, Some, None, is_some, option_map, refl, sym, ap, ◌∙◌, arith, cond, eqb}
use Rattle.std.specs.List.{list_any, count_by}
use Rattle.std.proofs.lemmas.Bool.{eqb-true, false≢true, and_parts}
use Rattle.std.proofs.lemmas.List.Filters.{length-filter_both}
use Rattle.std.proofs.lemmas.List.Sums.{length-filter}
use Rattle.pm_model.specs.Effect.{max_assignments, is_pair, is_to, with_assignment}
use Rattle.pm_model.specs.declared.elements.Element.{Element}
use Rattle.pm_elements.specs.declared.slots.Slot.{Slot}
use Rattle.pm_elements.specs.Kept.{Held, Kept}
use Rattle.pm_elements.specs.Listed.{Listed}
use Rattle.pm_elements.specs.Slots.{shown, pairs_of, slot_at, edited, linked, unlinked, with_parent, without_parent, with_child, without_child, parents_of, children_of}
use Rattle.pm_elements.proofs.Assigned.{pairs-added, pairs-less, pairs-same}
use Rattle.pm_elements.proofs.Edits.{length-edited, kept_by, shown-edited, some_edited, child_more, child_less, children_with_parent, children_without_parent, parents_with_child, parents_without_child}
use Rattle.pm_elements.proofs.Pairs.{count-with, length-with, count-decided, count-left, count-once, once-with}
use Rattle.pm_elements.proofs.Shown.{slot_at-below}

-- ---- one assignment more

more_parents : (y : ℕ) (o : Option Slot) → is_some o ≡ true → parents_of (option_map (with_parent y) o) ≡ parents_of o ++ y ∷ []
more_parents y None h = absurd (false≢true h)
more_parents y (Some s) h = refl

pub pairs-linked : (x y : ℕ) (slots : List (Option Slot)) → is_some (slot_at slots x) ≡ true → pairs_of (linked x y slots) ≡ with_assignment (x, y) (pairs_of slots)
pairs-linked x y slots x_in =
    let mid = edited (with_parent y) x slots in
    pairs-same y (option_map with_child (slot_at mid y)) mid (parents_with_child (slot_at mid y))
    ∙ pairs-added x y (option_map (with_parent y) (slot_at slots x)) slots (slot_at-below slots x x_in) (more_parents y (slot_at slots x) x_in)

pub shown-linked : (x y : ℕ) (slots : List (Option Slot)) → shown (linked x y slots) ≡ shown slots
shown-linked x y slots =
    shown-edited with_child (λ n s. refl) 0 y (edited (with_parent y) x slots)
    ∙ shown-edited (with_parent y) (λ n s. refl) 0 x slots

Held-linked : (slots : List (Option Slot)) (x y : ℕ) → is_some (slot_at slots x) ≡ true → is_some (slot_at slots y) ≡ true → list_any (is_pair x y) (pairs_of slots) ≡ false → Held slots
    → Held (linked x y slots)
Held-linked slots x y x_in y_in free h = record {
  children = λ z. child_more y z mid y_mid ∙ ap (λ n. cond (eqb y z) 1 0 + n) (middle z) ∙ sym (ap (λ l. count_by (is_to z) l) now ∙ count-with (is_to z) (x, y) (pairs_of slots));
  once = λ a b. rw now (once-with x y (pairs_of slots) free h.once a b);
} where
  now : pairs_of (linked x y slots) ≡ with_assignment (x, y) (pairs_of slots)
  now = pairs-linked x y slots x_in

  mid : List (Option Slot)
  mid = edited (with_parent y) x slots

  y_mid : is_some (slot_at mid y) ≡ true
  y_mid = kept_by is_some (with_parent y) (some_edited (with_parent y)) x y slots ∙ y_in

  middle : (z : ℕ) → children_of (slot_at mid z) ≡ count_by (is_to z) (pairs_of slots)
  middle z = kept_by children_of (with_parent y) (children_with_parent y) x z slots ∙ h.children z

pub Kept-linked : (slots : List (Option Slot)) (names : List (List ℕ × ℕ)) (live links x y : ℕ) → Kept slots names live links
    → is_some (slot_at slots x) ≡ true → is_some (slot_at slots y) ≡ true → list_any (is_pair x y) (pairs_of slots) ≡ false → links < max_assignments
    → Kept (linked x y slots) names live (links + 1)
Kept-linked slots names live links x y h x_in y_in free room = record {
  held = Held-linked slots x y x_in y_in free h.held;
  named = rw (shown-linked x y slots) h.named;
  counted = rw (shown-linked x y slots) h.counted;
  linked = omega (arith, ap (λ (l : List (ℕ × ℕ)). length l) (pairs-linked x y slots x_in), length-with (x, y) (pairs_of slots), h.linked);
  few = omega (arith, length-edited with_child y (edited (with_parent y) x slots), length-edited (with_parent y) x slots, h.few);
  few_links = omega (arith, room);
}

-- ---- one assignment less

abbrev pub without : ℕ → ℕ → List (ℕ × ℕ) → List (ℕ × ℕ)
without x y pairs = filter (λ pair. not (is_pair x y pair)) pairs

less_parents : (y : ℕ) (o : Option Slot) → parents_of (option_map (without_parent y) o) ≡ filter (λ z. not (eqb z y)) (parents_of o)
less_parents y None = refl
less_parents y (Some s) = refl

pub pairs-unlinked : (x y : ℕ) (slots : List (Option Slot)) → pairs_of (unlinked x y slots) ≡ without x y (pairs_of slots)
pairs-unlinked x y slots =
    let mid = edited (without_parent y) x slots in
    pairs-same y (option_map without_child (slot_at mid y)) mid (parents_without_child (slot_at mid y))
    ∙ pairs-less x y (option_map (without_parent y) (slot_at slots x)) slots (less_parents y (slot_at slots x))

pub shown-unlinked : (x y : ℕ) (slots : List (Option Slot)) → shown (unlinked x y slots) ≡ shown slots
shown-unlinked x y slots =
    shown-edited without_child (λ n s. refl) 0 y (edited (without_parent y) x slots)
    ∙ shown-edited (without_parent y) (λ n s. refl) 0 x slots

-- one assignment to y goes, and none to another
count-without : (x y z : ℕ) (pairs : List (ℕ × ℕ)) → count_by (is_pair x y) pairs ≡ 1 → count_by (is_to z) (without x y pairs) ≡ count_by (is_to z) pairs - cond (eqb y z) 1 0
count-without x y z pairs one = go (eqb y z) (count-decided (is_to z) (is_pair x y) (eqb y z) decided pairs) where
  decided : (p : ℕ × ℕ) → is_pair x y p ≡ true → is_to z p ≡ eqb y z
  decided p is = ap (λ n. eqb n z) (eqb-true p.1 y (and_parts (eqb p.0 x) (eqb p.1 y) is).1)

  go : (b : Bool) → count_by (is_to z) (filter (is_pair x y) pairs) ≡ cond b (count_by (is_pair x y) pairs) 0 → count_by (is_to z) (without x y pairs) ≡ count_by (is_to z) pairs - cond b 1 0
  go true gone = omega (arith, gone, one, count-left (is_to z) (is_pair x y) pairs)
  go false gone = omega (arith, gone, count-left (is_to z) (is_pair x y) pairs)

Held-unlinked : (slots : List (Option Slot)) (x y : ℕ) → list_any (is_pair x y) (pairs_of slots) ≡ true → Held slots → Held (unlinked x y slots)
Held-unlinked slots x y there h = record {
  children = λ z. child_less y z mid ∙ ap (λ n. n - cond (eqb y z) 1 0) (middle z) ∙ sym (ap (λ l. count_by (is_to z) l) now ∙ count-without x y z pairs (count-once x y pairs there h.once));
  once = λ a b. rw now (omega (arith, count-left (is_pair a b) (is_pair x y) pairs, h.once a b));
} where
  pairs : List (ℕ × ℕ)
  pairs = pairs_of slots

  now : pairs_of (unlinked x y slots) ≡ without x y pairs
  now = pairs-unlinked x y slots

  mid : List (Option Slot)
  mid = edited (without_parent y) x slots

  middle : (z : ℕ) → children_of (slot_at mid z) ≡ count_by (is_to z) pairs
  middle z = kept_by children_of (without_parent y) (children_without_parent y) x z slots ∙ h.children z

-- as many are left as there are others
pub length-without : (x y : ℕ) (slots : List (Option Slot)) → list_any (is_pair x y) (pairs_of slots) ≡ true → Held slots → length (without x y (pairs_of slots)) + 1 ≡ length (pairs_of slots)
length-without x y slots there h =
    omega (arith, count-once x y (pairs_of slots) there h.once, length-filter (is_pair x y) (pairs_of slots), length-filter_both (is_pair x y) (λ pair. not (is_pair x y pair)) (λ p. refl) (pairs_of slots))

pub Kept-unlinked : (slots : List (Option Slot)) (names : List (List ℕ × ℕ)) (live links x y : ℕ) → Kept slots names live links
    → list_any (is_pair x y) (pairs_of slots) ≡ true → Kept (unlinked x y slots) names live (links - 1)
Kept-unlinked slots names live links x y h there = record {
  held = Held-unlinked slots x y there h.held;
  named = rw (shown-unlinked x y slots) h.named;
  counted = rw (shown-unlinked x y slots) h.counted;
  linked = omega (arith, ap (λ (l : List (ℕ × ℕ)). length l) (pairs-unlinked x y slots), length-without x y slots there h.held, h.linked);
  few = omega (arith, length-edited without_child y (edited (without_parent y) x slots), length-edited (without_parent y) x slots, h.few);
  few_links = omega (arith, h.few_links);
}

pub same_table : {elements elements' : List Element} {assigned assigned' : List (ℕ × ℕ)} {alone alone' : Bool} → elements ≡ elements' → assigned ≡ assigned' → alone ≡ alone'
    → ◌≡◌ {A = Listed} (record { elements = elements; assigned = assigned; alone = alone }) (record { elements = elements'; assigned = assigned'; alone = alone' })
same_table e f g = rw (e, f, g) refl
