-- What a change of one slot leaves.
use Rattle.std.proofs.Common.{◌≡◌, ◌≢◌, ℕ, zero, suc, ◌+◌, ◌-◌, ◌<◌, true, cond, eqb, List, [], ◌∷◌, length, length-set, Option, Some, None, is_some, option_map, set, refl, sym, ap, ◌∙◌, arith, inl, inr}
use Rattle.std.proofs.lemmas.Bool.{cases_eq, eq-eqb, ne_eqb, false≢true}
use Rattle.pm_model.specs.declared.elements.Element.{Element}
use Rattle.pm_elements.specs.declared.slots.Slot.{Slot}
use Rattle.pm_elements.specs.Slots.{shown_from, slot_at, element_of, edited, with_parent, without_parent, with_child, without_child, parents_of, children_of}

pub slot_at-set_same : (slots : List (Option Slot)) (n : ℕ) (o : Option Slot) → n < length slots → slot_at (set slots n o) n ≡ o
slot_at-set_same [] n o h = absurd (omega arith)
slot_at-set_same (p ∷ slots) zero o h = refl
slot_at-set_same (p ∷ slots) (suc n) o h = slot_at-set_same slots n o (omega arith)

pub slot_at-set_other : (slots : List (Option Slot)) (n k : ℕ) (o : Option Slot) → k ≢ n → slot_at (set slots n o) k ≡ slot_at slots k
slot_at-set_other [] n k o h = refl
slot_at-set_other (p ∷ slots) zero zero o h = absurd (h refl)
slot_at-set_other (p ∷ slots) zero (suc k) o h = refl
slot_at-set_other (p ∷ slots) (suc n) zero o h = refl
slot_at-set_other (p ∷ slots) (suc n) (suc k) o h = slot_at-set_other slots n k o (λ e. h (ap suc e))

-- what is taken where a slot is free was taken before
pub still_taken : (slots : List (Option Slot)) (n k : ℕ) → is_some (slot_at (set slots n None) k) ≡ true → is_some (slot_at slots k) ≡ true
still_taken [] n k h = h
still_taken (o ∷ slots) zero zero h = absurd (false≢true h)
still_taken (o ∷ slots) zero (suc k) h = h
still_taken (o ∷ slots) (suc n) zero h = h
still_taken (o ∷ slots) (suc n) (suc k) h = still_taken slots n k h

pub slot_at-edited : (f : Slot → Slot) (n : ℕ) (slots : List (Option Slot)) → slot_at (edited f n slots) n ≡ option_map f (slot_at slots n)
slot_at-edited f n [] = refl
slot_at-edited f zero (o ∷ slots) = refl
slot_at-edited f (suc n) (o ∷ slots) = slot_at-edited f n slots

pub slot_at-edited_other : (f : Slot → Slot) (n k : ℕ) (slots : List (Option Slot)) → k ≢ n → slot_at (edited f n slots) k ≡ slot_at slots k
slot_at-edited_other f n k slots h = slot_at-set_other slots n k (option_map f (slot_at slots n)) h

-- what the change of a slot leaves, it leaves everywhere
pub kept_by : {A : Type 0} (g : Option Slot → A) (f : Slot → Slot) → ((o : Option Slot) → g (option_map f o) ≡ g o) → (n k : ℕ) (slots : List (Option Slot))
    → g (slot_at (edited f n slots) k) ≡ g (slot_at slots k)
kept_by g f keeps n k slots = elim (cases_eq k n) [
  | inl same ↦ rw same (ap g (slot_at-edited f n slots) ∙ keeps (slot_at slots n))
  | inr other ↦ ap g (slot_at-edited_other f n k slots other)
]

-- a change that leaves kind and name shows the same elements
pub shown-edited : (f : Slot → Slot) → ((n : ℕ) (s : Slot) → element_of n (f s) ≡ element_of n s) → (n k : ℕ) (slots : List (Option Slot)) → shown_from n (edited f k slots) ≡ shown_from n slots
shown-edited f keeps n k [] = refl
shown-edited f keeps n zero (None ∷ slots) = refl
shown-edited f keeps n zero (Some s ∷ slots) = ap (λ e. e ∷ shown_from (n + 1) slots) (keeps n s)
shown-edited f keeps n (suc k) (None ∷ slots) = shown-edited f keeps (n + 1) k slots
shown-edited f keeps n (suc k) (Some s ∷ slots) = ap (λ (es : List Element). element_of n s ∷ es) (shown-edited f keeps (n + 1) k slots)

pub edited_taken : (f : Slot → Slot) (n : ℕ) (slots : List (Option Slot)) (s : Slot) → slot_at slots n ≡ Some s → edited f n slots ≡ set slots n (Some (f s))
edited_taken f n slots s is = ap (λ o. set slots n (option_map f o)) is

-- a change of a slot just written
pub edited-set : (f : Slot → Slot) (n : ℕ) (s : Slot) (slots : List (Option Slot)) → edited f n (set slots n (Some s)) ≡ set slots n (Some (f s))
edited-set f n s [] = refl
edited-set f zero s (o ∷ slots) = refl
edited-set f (suc n) s (o ∷ slots) = ap (λ (l : List (Option Slot)). o ∷ l) (edited-set f n s slots)

-- a slot written back
pub set_back : (slots : List (Option Slot)) (n : ℕ) (s : Slot) → slot_at slots n ≡ Some s → set slots n (Some s) ≡ slots
set_back [] n s is = refl
set_back (o ∷ slots) zero s is = ap (λ (p : Option Slot). p ∷ slots) (sym is)
set_back (o ∷ slots) (suc n) s is = ap (λ (l : List (Option Slot)). o ∷ l) (set_back slots n s is)

pub some_edited : (f : Slot → Slot) (o : Option Slot) → is_some (option_map f o) ≡ is_some o
some_edited f None = refl
some_edited f (Some s) = refl

pub children_with_parent : (y : ℕ) (o : Option Slot) → children_of (option_map (with_parent y) o) ≡ children_of o
children_with_parent y None = refl
children_with_parent y (Some s) = refl

pub children_without_parent : (y : ℕ) (o : Option Slot) → children_of (option_map (without_parent y) o) ≡ children_of o
children_without_parent y None = refl
children_without_parent y (Some s) = refl

pub parents_with_child : (o : Option Slot) → parents_of (option_map with_child o) ≡ parents_of o
parents_with_child None = refl
parents_with_child (Some s) = refl

pub parents_without_child : (o : Option Slot) → parents_of (option_map without_child o) ≡ parents_of o
parents_without_child None = refl
parents_without_child (Some s) = refl

pub length-edited : (f : Slot → Slot) (n : ℕ) (slots : List (Option Slot)) → length (edited f n slots) ≡ length slots
length-edited f n slots = length-set slots n (option_map f (slot_at slots n))

-- ---- one child more, and one less

pub child_more : (y z : ℕ) (slots : List (Option Slot)) → is_some (slot_at slots y) ≡ true → children_of (slot_at (edited with_child y slots) z) ≡ cond (eqb y z) 1 0 + children_of (slot_at slots z)
child_more y z slots h = elim (cases_eq z y) [
  | inl same ↦ rw (same, eq-eqb y y refl) (ap children_of (slot_at-edited with_child y slots) ∙ taken (slot_at slots y) h)
  | inr other ↦ let apart : y ≢ z = omega arith in rw (ne_eqb y z apart) (ap children_of (slot_at-edited_other with_child y z slots other) ∙ omega arith)
] where
  taken : (o : Option Slot) → is_some o ≡ true → children_of (option_map with_child o) ≡ 1 + children_of o
  taken None t = absurd (false≢true t)
  taken (Some s) t = omega arith

pub child_less : (y z : ℕ) (slots : List (Option Slot)) → children_of (slot_at (edited without_child y slots) z) ≡ children_of (slot_at slots z) - cond (eqb y z) 1 0
child_less y z slots = elim (cases_eq z y) [
  | inl same ↦ rw (same, eq-eqb y y refl) (ap children_of (slot_at-edited without_child y slots) ∙ less (slot_at slots y))
  | inr other ↦ let apart : y ≢ z = omega arith in rw (ne_eqb y z apart) (ap children_of (slot_at-edited_other without_child y z slots other) ∙ omega arith)
] where
  less : (o : Option Slot) → children_of (option_map without_child o) ≡ children_of o - 1
  less None = omega arith
  less (Some s) = refl
