-- The table is kept where an element is taken out with its assignments.
use Rattle.std.proofs.Common.{◌≡◌, ◌≢◌, ℕ, zero, suc, ◌+◌, ◌-◌, ◌<◌, true, false, not, List, [], ◌∷◌, length, length-set, get_or, drop, set, filter, Option, Some, None, is_some, IsSome, IfSome, slice_get, option_map, refl, sym, ap, ◌∙◌, arith, inl, inr, eqb}
use Rattle.std.specs.List.{count_by}
use Rattle.std.proofs.lemmas.Bool.{ne_eqb, eq-eqb, cases_eq, false≢true}
use Rattle.std.proofs.lemmas.List.Filters.{length-filter_both}
use Rattle.pm_model.specs.State.{is_numbered}
use Rattle.pm_model.specs.Effect.{is_pair, is_from, is_to, has_child}
use Rattle.pm_model.specs.declared.elements.Element.{Element}
use Rattle.pm_elements.specs.declared.slots.Slot.{Slot}
use Rattle.pm_names.specs.Named.{Renames}
use Rattle.pm_elements.specs.Kept.{Held, Kept}
use Rattle.pm_elements.specs.Slots.{shown_from, shown, pairs_of, slot_at, element_of, edited, without_child, parents_of, children_of, released, removed}
use Rattle.pm_elements.proofs.Assigned.{containers_held, pairs-same, pairs-freed}
use Rattle.pm_elements.proofs.Edits.{slot_at-set_same, slot_at-set_other, length-edited, shown-edited, parents_without_child, child_less}
use Rattle.pm_elements.proofs.Found.{Named-filtered}
use Rattle.pm_elements.proofs.Held.{count_held, no_child, parent_child, parent_taken}
use Rattle.pm_elements.proofs.Pairs.{count-cons, count-left, count-map}
use Rattle.pm_elements.proofs.Shown.{element_at-shown, slot_at-below}

-- one more of these is released
pub released_more : (ps : List ℕ) (slots : List (Option Slot)) (i y : ℕ) → i < length ps → y ≡ get_or ps i y → released (drop (i + 1) ps) (edited without_child y slots) ≡ released (drop i ps) slots
released_more [] slots i y below is = absurd (omega arith)
released_more (p ∷ ps) slots zero y below is = rw is refl
released_more (p ∷ ps) slots (suc i) y below is = let next : suc i + 1 ≡ suc (i + 1) = omega arith in rw next (released_more ps slots i y (omega arith) is)

-- ---- what the slots show

-- all numbers shown from n on are above a lesser one
keep_above : (n m : ℕ) (slots : List (Option Slot)) → m < n → filter (λ e. not (is_numbered m e)) (shown_from n slots) ≡ shown_from n slots
keep_above n m [] h = refl
keep_above n m (None ∷ slots) h = keep_above (n + 1) m slots (omega arith)
keep_above n m (Some s ∷ slots) h = let other : n ≢ m = omega arith in rw (ne_eqb n m other) (ap (λ (es : List Element). element_of n s ∷ es) (keep_above (n + 1) m slots (omega arith)))

shown-freed_from : (n k m : ℕ) (slots : List (Option Slot)) → m ≡ n + k → shown_from n (set slots k None) ≡ filter (λ e. not (is_numbered m e)) (shown_from n slots)
shown-freed_from n k m [] e = refl
shown-freed_from n zero m (None ∷ slots) e = sym (keep_above (n + 1) m slots (omega arith))
shown-freed_from n zero m (Some s ∷ slots) e = rw (eq-eqb n m (omega arith)) (sym (keep_above (n + 1) m slots (omega arith)))
shown-freed_from n (suc k) m (None ∷ slots) e = shown-freed_from (n + 1) k m slots (omega arith)
shown-freed_from n (suc k) m (Some s ∷ slots) e = let other : n ≢ m = omega arith in rw (ne_eqb n m other) (ap (λ (es : List Element). element_of n s ∷ es) (shown-freed_from (n + 1) k m slots (omega arith)))

shown-released : (ps : List ℕ) (slots : List (Option Slot)) → shown (released ps slots) ≡ shown slots
shown-released [] slots = refl
shown-released (y ∷ ps) slots = shown-released ps (edited without_child y slots) ∙ shown-edited without_child (λ n s. refl) 0 y slots

pub shown-removed : (n : ℕ) (slots : List (Option Slot)) → shown (removed n slots) ≡ filter (λ e. not (is_numbered n e)) (shown slots)
shown-removed n slots = shown-released (parents_of (slot_at slots n)) (set slots n None) ∙ shown-freed_from 0 n n slots (omega arith)

one_less_from : (n k : ℕ) (slots : List (Option Slot)) → is_some (slot_at slots k) ≡ true → length (shown_from n (set slots k None)) + 1 ≡ length (shown_from n slots)
one_less_from n k [] h = absurd (false≢true h)
one_less_from n zero (None ∷ slots) h = absurd (false≢true h)
one_less_from n zero (Some s ∷ slots) h = omega arith
one_less_from n (suc k) (None ∷ slots) h = one_less_from (n + 1) k slots h
one_less_from n (suc k) (Some s ∷ slots) h = let rest = one_less_from (n + 1) k slots h in omega arith

-- one element less is live
pub one_less : (n : ℕ) (slots : List (Option Slot)) → is_some (slot_at slots n) ≡ true → length (shown (removed n slots)) + 1 ≡ length (shown slots)
one_less n slots h = ap (λ (es : List Element). length es + 1) (shown-released (parents_of (slot_at slots n)) (set slots n None)) ∙ one_less_from 0 n slots h

-- ---- the assignments

abbrev pub without_from : ℕ → List (ℕ × ℕ) → List (ℕ × ℕ)
without_from n pairs = filter (λ pair. not (is_from n pair)) pairs

pairs-released : (ps : List ℕ) (slots : List (Option Slot)) → pairs_of (released ps slots) ≡ pairs_of slots
pairs-released [] slots = refl
pairs-released (y ∷ ps) slots =
    pairs-released ps (edited without_child y slots)
    ∙ pairs-same y (option_map without_child (slot_at slots y)) slots (parents_without_child (slot_at slots y))

pub pairs-removed : (n : ℕ) (slots : List (Option Slot)) → pairs_of (removed n slots) ≡ without_from n (pairs_of slots)
pairs-removed n slots = pairs-released (parents_of (slot_at slots n)) (set slots n None) ∙ pairs-freed n slots

-- ---- what the slots count

children-released : (ps : List ℕ) (slots : List (Option Slot)) (z : ℕ) → children_of (slot_at (released ps slots) z) ≡ children_of (slot_at slots z) - count_by (λ y. eqb y z) ps
children-released [] slots z = omega arith
children-released (y ∷ ps) slots z = omega (arith, children-released ps (edited without_child y slots) z, child_less y z slots, count-cons (λ w. eqb w z) y ps)

-- the assignments to z are those of n and the others
count-from : (n z : ℕ) (slots : List (Option Slot)) → count_by (λ y. eqb y z) (parents_of (slot_at slots n)) + count_by (is_to z) (without_from n (pairs_of slots)) ≡ count_by (is_to z) (pairs_of slots)
count-from n z slots =
    let of_n : count_by (λ y. eqb y z) (parents_of (slot_at slots n)) ≡ count_by (is_to z) (filter (is_from n) (pairs_of slots))
    = ap (λ l. count_by (λ y. eqb y z) l) (sym (containers_held slots n)) ∙ count-map (λ (p : ℕ × ℕ). p.1) (λ y. eqb y z) (filter (is_from n) (pairs_of slots)) in
    ap (λ k. k + count_by (is_to z) (without_from n (pairs_of slots))) of_n ∙ count-left (is_to z) (is_from n) (pairs_of slots)

Held-removed : (slots : List (Option Slot)) (n : ℕ) → n < length slots → children_of (slot_at slots n) ≡ 0 → Held slots → Held (removed n slots)
Held-removed slots n below none h = record {
  children = λ z. children-released ps (set slots n None) z ∙ left z ∙ sym (ap (λ l. count_by (is_to z) l) now);
  once = λ a b. rw now (omega (arith, count-left (is_pair a b) (is_from n) (pairs_of slots), h.once a b));
} where
  ps : List ℕ
  ps = parents_of (slot_at slots n)

  now : pairs_of (removed n slots) ≡ without_from n (pairs_of slots)
  now = pairs-removed n slots

  left : (z : ℕ) → children_of (slot_at (set slots n None) z) - count_by (λ y. eqb y z) ps ≡ count_by (is_to z) (without_from n (pairs_of slots))
  left z = elim (cases_eq z n) [
    | inl same ↦
        let gone : children_of (slot_at (set slots n None) z) ≡ 0 = rw same (ap children_of (slot_at-set_same slots n None below)) in
        let empty : count_by (is_to z) (pairs_of slots) ≡ 0 = rw same (sym (h.children n) ∙ none) in
        omega (arith, gone, empty, count-from n z slots)
    | inr other ↦
        let kept : children_of (slot_at (set slots n None) z) ≡ count_by (is_to z) (pairs_of slots) = ap children_of (slot_at-set_other slots n z None other) ∙ h.children z in
        omega (arith, kept, count-from n z slots)
  ]

length-released : (ps : List ℕ) (slots : List (Option Slot)) → length (released ps slots) ≡ length slots
length-released [] slots = refl
length-released (y ∷ ps) slots = length-released ps (edited without_child y slots) ∙ length-edited without_child y slots

-- as many assignments go as the element has containers
pub length-from : (n : ℕ) (slots : List (Option Slot)) → length (parents_of (slot_at slots n)) + length (without_from n (pairs_of slots)) ≡ length (pairs_of slots)
length-from n slots = omega (arith, count_held slots n, length-filter_both (is_from n) (λ pair. not (is_from n pair)) (λ p. refl) (pairs_of slots))

pub Kept-removed : (slots : List (Option Slot)) (names names' : List (List ℕ × ℕ)) (live live' links links' n : ℕ) → Kept slots names live links
    → is_some (slot_at slots n) ≡ true → has_child (pairs_of slots) n ≡ false → IfSome (slot_at slots n) (λ s. Renames s.name None names names')
    → live' + 1 ≡ live → links' + length (parents_of (slot_at slots n)) ≡ links → Kept (removed n slots) names' live' links'
Kept-removed slots names names' live live' links links' n h there none changed fewer fewer_links = go (slot_at slots n) refl there changed where
  below : n < length slots
  below = slot_at-below slots n there

  go : (o : Option Slot) → slot_at slots n ≡ o → is_some o ≡ true → IfSome o (λ s. Renames s.name None names names') → Kept (removed n slots) names' live' links'
  go None is t c = absurd (false≢true t)
  go (Some s) is t c = record {
    held = Held-removed slots n below (no_child slots n h.held none) h.held;
    named = rw (shown-removed n slots)
        (Named-filtered (shown slots) names names' n s.name h.named (ap (option_map (λ (e : Element). e.name)) (element_at-shown n slots ∙ ap (option_map (element_of n)) is)) c);
    counted = omega (arith, one_less n slots there, h.counted);
    linked = omega (arith, ap (λ (l : List (ℕ × ℕ)). length l) (pairs-removed n slots), length-from n slots, h.linked);
    few = omega (arith, length-released (parents_of (slot_at slots n)) (set slots n None), length-set slots n None, h.few);
    few_links = omega (arith, h.few_links);
  }

-- what an element without children is assigned to stays live
pub parents_stay : (slots : List (Option Slot)) (n : ℕ) → Held slots → has_child (pairs_of slots) n ≡ false
    → (i y : ℕ) → slice_get (parents_of (slot_at slots n)) i ≡ Some y → IsSome (slot_at (set slots n None) y)
parents_stay slots n h none i y is =
    let other : y ≢ n = λ (e : y ≡ n). absurd (omega (arith, (rw e at (parent_child slots n i y is)), h.children n, no_child slots n h none)) in
    ap is_some (slot_at-set_other slots n y None other) ∙ parent_taken slots n i y h is
