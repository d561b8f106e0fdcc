-- The elements that the slots show.
use Rattle.std.proofs.Common.{◌≡◌, ◌≢◌, ℕ, zero, suc, ◌+◌, ◌<◌, true, List, [], ◌∷◌, length, Option, Some, None, is_some, option_map, refl, sym, ap, ◌∙◌, arith, slice_get, unwrap_or}
use Rattle.std.proofs.lemmas.Bool.{ne_eqb, eq-eqb, false≢true}
use Rattle.pm_model.specs.State.{element, element_at, name_numbered, name_or_none}
use Rattle.pm_model.specs.Effect.{both, may_assign, may_create}
use Rattle.pm_model.specs.declared.elements.Kind.{Kind}
use Rattle.pm_model.specs.Formed.{IsLive}
use Rattle.pm_model.specs.declared.elements.Element.{Element}
use Rattle.pm_elements.specs.declared.slots.Slot.{Slot}
use Rattle.pm_elements.proofs.Lists.{is_some-map}
use Rattle.pm_elements.specs.Slots.{shown_from, shown, slot_at, element_of}

-- no slot has a number below the first
element_at-below : (n k : ℕ) (slots : List (Option Slot)) → k < n → element_at (shown_from n slots) k ≡ None
element_at-below n k [] below = refl
element_at-below n k (None ∷ slots) below = element_at-below (n + 1) k slots (omega arith)
element_at-below n k (Some s ∷ slots) below =
    let ne : n ≢ k = omega arith in
    rw (ne_eqb n k ne) (element_at-below (n + 1) k slots (omega arith))

-- the element of a number is that of its slot
pub element_at-shown_from : (n k m : ℕ) (slots : List (Option Slot)) → m ≡ n + k → element_at (shown_from n slots) m ≡ option_map (element_of m) (slot_at slots k)
element_at-shown_from n k m [] e = refl
element_at-shown_from n zero m (None ∷ slots) e = element_at-below (n + 1) m slots (omega arith)
element_at-shown_from n zero m (Some s ∷ slots) e =
    let same : n ≡ m = omega arith in
    rw (eq-eqb n m same) (ap (λ (i : ℕ). Some (element_of i s)) same)
element_at-shown_from n (suc k) m (None ∷ slots) e = element_at-shown_from (n + 1) k m slots (omega arith)
element_at-shown_from n (suc k) m (Some s ∷ slots) e =
    let ne : n ≢ m = omega arith in
    rw (ne_eqb n m ne) (element_at-shown_from (n + 1) k m slots (omega arith))

pub element_at-shown : (k : ℕ) (slots : List (Option Slot)) → element_at (shown slots) k ≡ option_map (element_of k) (slot_at slots k)
element_at-shown k slots = element_at-shown_from 0 k k slots (omega arith)

-- an element is live exactly where its slot is taken
pub live_shown : (k : ℕ) (slots : List (Option Slot)) → is_some (element_at (shown slots) k) ≡ is_some (slot_at slots k)
live_shown k slots = ap is_some (element_at-shown k slots) ∙ is_some-map (element_of k) (slot_at slots k)

pub slot_at-below : (slots : List (Option Slot)) (k : ℕ) → is_some (slot_at slots k) ≡ true → k < length slots
slot_at-below [] k h = absurd (false≢true h)
slot_at-below (o ∷ slots) zero h = omega arith
slot_at-below (o ∷ slots) (suc k) h = omega (arith, slot_at-below slots k h)

pub slot_taken : (slots : List (Option Slot)) (k : ℕ) → IsLive (shown slots) k → is_some (slot_at slots k) ≡ true
slot_taken slots k h = sym (live_shown k slots) ∙ h

pub taken_shown : (slots : List (Option Slot)) (k : ℕ) → is_some (slot_at slots k) ≡ true → IsLive (shown slots) k
taken_shown slots k h = live_shown k slots ∙ h

pub slot_below : (slots : List (Option Slot)) (k : ℕ) → IsLive (shown slots) k → k < length slots
slot_below slots k h = slot_at-below slots k (slot_taken slots k h)

pub kind_shown : (k : ℕ) (slots : List (Option Slot)) (s : Slot) → slot_at slots k ≡ Some s → option_map (λ (e : Element). e.kind) (element_at (shown slots) k) ≡ Some s.kind
kind_shown k slots s is = ap (option_map (λ (e : Element). e.kind)) (element_at-shown k slots ∙ ap (option_map (element_of k)) is)

pub name_shown : (k : ℕ) (slots : List (Option Slot)) (s : Slot) → slot_at slots k ≡ Some s → name_numbered (shown slots) k ≡ s.name
name_shown k slots s is = ap name_or_none (element_at-shown k slots ∙ ap (option_map (element_of k)) is)

-- the slot of a number, as it is read
pub slot_at-read : (slots : List (Option Slot)) (k : ℕ) (read : Option Slot) → slice_get slots k ≡ Some read → slot_at slots k ≡ read
slot_at-read slots k read is = ap (λ o. unwrap_or o None) is

pub live_below : (slots : List (Option Slot)) (k : ℕ) → is_some (element_at (shown slots) k) ≡ true → k < length slots
live_below slots k h = slot_below slots k h

kinds_of : (o p : Option Element) (a b : Kind) → option_map (λ (e : Element). e.kind) o ≡ Some a → option_map (λ (e : Element). e.kind) p ≡ Some b → both may_assign o p ≡ may_assign a b
kinds_of None p a b h k = cc
kinds_of (Some d) None a b h k = cc
kinds_of (Some d) (Some e) a b h k = let f : d.kind ≡ a = cc in let g : e.kind ≡ b = cc in rw (f, g) refl

-- the kinds of two elements are those of their slots
pub both_shown : (slots : List (Option Slot)) (x y : ℕ) (s t : Slot) → slot_at slots x ≡ Some s → slot_at slots y ≡ Some t
    → both may_assign (element_at (shown slots) x) (element_at (shown slots) y) ≡ may_assign s.kind t.kind
both_shown slots x y s t at_x at_y = kinds_of (element_at (shown slots) x) (element_at (shown slots) y) s.kind t.kind (kind_shown x slots s at_x) (kind_shown y slots t at_y)

pub create_shown : (slots : List (Option Slot)) (kind : Kind) (y : ℕ) (t : Slot) → slot_at slots y ≡ Some t
    → may_create (shown slots) kind (Some y) ≡ may_assign kind t.kind
create_shown slots kind y t at_y = kinds_of (Some (element 0 kind [])) (element_at (shown slots) y) kind t.kind refl (kind_shown y slots t at_y)
