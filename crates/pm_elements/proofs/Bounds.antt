-- From where on a slot may be free.
use Rattle.std.proofs.Common.{◌≡◌, ℕ, zero, suc, ◌+◌, ◌<◌, ◌≤◌, List, [], ◌∷◌, length, drop, set, Option, Some, None, refl, ap, ◌∙◌, arith}
use Rattle.pm_model.specs.declared.elements.Kind.{Kind}
use Rattle.pm_elements.specs.declared.slots.Slot.{Slot}
use Rattle.pm_elements.specs.Slots.{slot_at, parents_of, first_free, opened, edited, with_parent, without_parent, with_child, without_child, linked, unlinked, new_slot, joined, released, removed}
use Rattle.pm_elements.proofs.Placing.{first_free-opened}
use Rattle.pm_elements.proofs.Created.{made, opened_below}

-- the slots before it are taken
pub free_from : (k : ℕ) (slots : List (Option Slot)) → k ≤ first_free slots → first_free slots ≡ k + first_free (drop k slots)
free_from zero [] h = omega arith
free_from zero (None ∷ slots) h = omega arith
free_from zero (Some s ∷ slots) h = omega arith
free_from (suc k) [] h = absurd (omega arith)
free_from (suc k) (None ∷ slots) h = absurd (omega arith)
free_from (suc k) (Some s ∷ slots) h = omega (arith, free_from k slots (omega arith))

-- what a slot has changes nothing
free-edited : (f : Slot → Slot) (n : ℕ) (slots : List (Option Slot)) → first_free (edited f n slots) ≡ first_free slots
free-edited f n [] = refl
free-edited f zero (None ∷ slots) = refl
free-edited f zero (Some s ∷ slots) = refl
free-edited f (suc n) (None ∷ slots) = refl
free-edited f (suc n) (Some s ∷ slots) = ap suc (free-edited f n slots)

pub free-linked : (x y : ℕ) (slots : List (Option Slot)) → first_free (linked x y slots) ≡ first_free slots
free-linked x y slots = free-edited with_child y (edited (with_parent y) x slots) ∙ free-edited (with_parent y) x slots

pub free-unlinked : (x y : ℕ) (slots : List (Option Slot)) → first_free (unlinked x y slots) ≡ first_free slots
free-unlinked x y slots = free-edited without_child y (edited (without_parent y) x slots) ∙ free-edited (without_parent y) x slots

free-joined : (into : Option ℕ) (slots : List (Option Slot)) → first_free (joined into slots) ≡ first_free slots
free-joined None slots = refl
free-joined (Some y) slots = free-edited with_child y slots

free-released : (ys : List ℕ) (slots : List (Option Slot)) → first_free (released ys slots) ≡ first_free slots
free-released [] slots = refl
free-released (y ∷ ys) slots = free-released ys (edited without_child y slots) ∙ free-edited without_child y slots

-- the first free slot is taken
free-set : (slots : List (Option Slot)) (s : Slot) → first_free slots < length slots → first_free slots < first_free (set slots (first_free slots) (Some s))
free-set [] s below = absurd (omega arith)
free-set (None ∷ slots) s below = omega arith
free-set (Some t ∷ slots) s below = omega (arith, free-set slots s (omega arith))

pub free-made : (slots : List (Option Slot)) (kind : Kind) (name : List ℕ) (into : Option ℕ) → first_free slots < first_free (made kind name into slots)
free-made slots kind name into =
    let n = first_free slots in
    let more = opened n slots in
    let s = new_slot kind name into in
    let here : first_free more ≡ n = first_free-opened n slots in
    let taken : n < first_free (set more n (Some s)) = rw here at (free-set more s (omega (arith, here, opened_below slots))) in
    omega (arith, taken, free-joined into (set more n (Some s)))

-- a slot is freed
free-freed : (k n : ℕ) (slots : List (Option Slot)) → k ≤ first_free slots → k ≤ n → k ≤ first_free (set slots n None)
free-freed k n [] h least = h
free-freed k zero (None ∷ slots) h least = omega (arith, least)
free-freed k zero (Some s ∷ slots) h least = omega (arith, least)
free-freed k (suc n) (None ∷ slots) h least = h
free-freed zero (suc n) (Some s ∷ slots) h least = omega arith
free-freed (suc k) (suc n) (Some s ∷ slots) h least = omega (arith, free-freed k n slots (omega (arith, h)) (omega (arith, least)))

pub free-removed : (k n : ℕ) (slots : List (Option Slot)) → k ≤ first_free slots → k ≤ n → k ≤ first_free (removed n slots)
free-removed k n slots h least = omega (arith, free-freed k n slots h least, free-released (parents_of (slot_at slots n)) (set slots n None))
