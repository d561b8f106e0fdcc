-- The least live number from a number on.
use Rattle.std.proofs.Common.{◌≡◌, ℕ, zero, suc, ◌+◌, ◌≤◌, List, [], ◌∷◌, length, find, option_map, Option, Some, None, is_some, true, false, refl, sym, ap, ◌∙◌, arith}
use Rattle.std.proofs.lemmas.Bool.{le-leb, lt-leb}
use Rattle.pm_model.specs.declared.elements.Element.{Element}
use Rattle.pm_elements.specs.declared.slots.Slot.{Slot}
use Rattle.pm_elements.specs.Checks.{is_at_least, least_from}
use Rattle.pm_elements.specs.Slots.{shown_from, shown, slot_at, element_of}

here_from : (m k n : ℕ) (slots : List (Option Slot)) (s : Slot) → n ≡ m + k → slot_at slots k ≡ Some s → find (is_at_least n) (shown_from m slots) ≡ Some (element_of n s)
here_from m k n [] s e is = cc
here_from m zero n (None ∷ slots) s e is = cc
here_from m zero n (Some t ∷ slots) s e is =
    let same : t ≡ s = cc in
    let first : m ≡ n = omega arith in
    rw (le-leb n m (omega arith)) (ap (λ (i : ℕ). Some (element_of i t)) first ∙ ap (λ (u : Slot). Some (element_of n u)) same)
here_from m (suc k) n (None ∷ slots) s e is = here_from (m + 1) k n slots s (omega arith) is
here_from m (suc k) n (Some t ∷ slots) s e is = rw (lt-leb n m (omega arith)) (here_from (m + 1) k n slots s (omega arith) is)

-- all numbers shown from m on are at least m
first_from : (m n : ℕ) (slots : List (Option Slot)) → n ≤ m → find (is_at_least n) (shown_from m slots) ≡ find (is_at_least m) (shown_from m slots)
first_from m n [] h = refl
first_from m n (None ∷ slots) h = first_from (m + 1) n slots (omega arith) ∙ sym (first_from (m + 1) m slots (omega arith))
first_from m n (Some t ∷ slots) h = rw (le-leb n m h, le-leb m m (omega arith)) refl

later_from : (m k n : ℕ) (slots : List (Option Slot)) → n ≡ m + k → slot_at slots k ≡ None → find (is_at_least n) (shown_from m slots) ≡ find (is_at_least (n + 1)) (shown_from m slots)
later_from m k n [] e is = refl
later_from m zero n (None ∷ slots) e is = let same : n ≡ m = omega arith in rw same (first_from (m + 1) m slots (omega arith))
later_from m zero n (Some t ∷ slots) e is = cc
later_from m (suc k) n (None ∷ slots) e is = later_from (m + 1) k n slots (omega arith) is
later_from m (suc k) n (Some t ∷ slots) e is = rw (lt-leb n m (omega arith), lt-leb (n + 1) m (omega arith)) (later_from (m + 1) k n slots (omega arith) is)

none_from : (m n : ℕ) (slots : List (Option Slot)) → m + length slots ≤ n → find (is_at_least n) (shown_from m slots) ≡ None
none_from m n [] h = refl
none_from m n (None ∷ slots) h = none_from (m + 1) n slots (omega arith)
none_from m n (Some t ∷ slots) h = rw (lt-leb n m (omega arith)) (none_from (m + 1) n slots (omega arith))

number : Option Element → Option ℕ
number o = option_map (λ (e : Element). e.number) o

pub next_here : (slots : List (Option Slot)) (n : ℕ) (o : Option Slot) → slot_at slots n ≡ o → is_some o ≡ true → least_from (shown slots) n ≡ Some n
next_here slots n None is h = cc
next_here slots n (Some s) is h = ap (option_map (λ (e : Element). e.number)) (here_from 0 n n slots s (omega arith) is)

pub next_later : (slots : List (Option Slot)) (n : ℕ) (o : Option Slot) → slot_at slots n ≡ o → is_some o ≡ false → least_from (shown slots) n ≡ least_from (shown slots) (n + 1)
next_later slots n None is h = ap (option_map (λ (e : Element). e.number)) (later_from 0 n n slots (omega arith) is)
next_later slots n (Some s) is h = cc

pub next_none : (slots : List (Option Slot)) (n : ℕ) → length slots ≤ n → least_from (shown slots) n ≡ None
next_none slots n h = ap (option_map (λ (e : Element). e.number)) (none_from 0 n slots (omega arith))
