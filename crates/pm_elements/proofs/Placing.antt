-- A new element at the first number that is free.
use Rattle.std.proofs.Common.{◌≡◌, ◌≢◌, ℕ, zero, suc, ◌+◌, ◌<◌, ◌≤◌, true, List, [], ◌∷◌, ◌++◌, length, length-append, drop, take, nat_lt, Option, Some, None, is_some, IsSome, IfSome, inl, inr, set, refl, sym, ap, ◌∙◌, arith}
use Rattle.std.proofs.lemmas.Bool.{ne_eqb, eq-eqb, le-ltb, lt-ltb, ltb-true, ltb-false, cases_eq, cond_both, false≢true}
use Rattle.std.proofs.lemmas.List.{take-append-drop, drop-drop}
use Rattle.pm_model.specs.Effect.{max_elements, placed}
use Rattle.pm_model.specs.Resolve.{unused_from, unused}
use Rattle.pm_model.specs.declared.elements.Element.{Element}
use Rattle.pm_elements.specs.declared.slots.Slot.{Slot}
use Rattle.pm_elements.specs.Slots.{shown_from, shown, pairs_of, slot_at, element_of, first_free, opened, children_of}
use Rattle.pm_elements.proofs.Assigned.{pairs-pushed}
use Rattle.pm_elements.proofs.Edits.{slot_at-set_other}

-- ---- the slots

pub free_within : (slots : List (Option Slot)) → first_free slots ≤ length slots
free_within [] = omega arith
free_within (None ∷ slots) = omega arith
free_within (Some s ∷ slots) = omega (arith, free_within slots)

pub shown_free : (slots : List (Option Slot)) (n : ℕ) → first_free slots ≤ length (shown_from n slots)
shown_free [] n = omega arith
shown_free (None ∷ slots) n = omega arith
shown_free (Some s ∷ slots) n = omega (arith, shown_free slots (n + 1))

-- as many elements are live as stand before the first slot that is free, or more
pub free_few : (slots : List (Option Slot)) → first_free slots ≤ length (shown slots)
free_few slots = shown_free slots 0

pub free_slot : (slots : List (Option Slot)) → slot_at slots (first_free slots) ≡ None
free_slot [] = refl
free_slot (None ∷ slots) = refl
free_slot (Some s ∷ slots) = free_slot slots

-- a taken slot stays as it is where the first free one is taken
pub still : (slots : List (Option Slot)) (s : Slot) (y : ℕ) → is_some (slot_at slots y) ≡ true → slot_at (set slots (first_free slots) (Some s)) y ≡ slot_at slots y
still slots s y h = elim (cases_eq y (first_free slots)) [
  | inl same ↦ absurd (false≢true (sym (ap is_some (free_slot slots)) ∙ (rw same at h)))
  | inr other ↦ slot_at-set_other slots (first_free slots) y (Some s) other
]

pub into_still : (slots : List (Option Slot)) (s : Slot) (into : Option ℕ) → IfSome into (λ y. IsSome (slot_at slots y)) → IfSome into (λ y. IsSome (slot_at (set slots (first_free slots) (Some s)) y))
into_still slots s None h = tt
into_still slots s (Some y) h = ap is_some (still slots s y h) ∙ h

pub few_still : (slots : List (Option Slot)) (s : Slot) (into : Option ℕ) → IfSome into (λ y. IsSome (slot_at slots y)) → IfSome into (λ y. children_of (slot_at slots y) < 4294967295)
    → IfSome into (λ y. children_of (slot_at (set slots (first_free slots) (Some s)) y) < 4294967295)
few_still slots s None h few = tt
few_still slots s (Some y) h few = rw (still slots s y h) few

-- ---- what they show

pub shown_few : (n : ℕ) (slots : List (Option Slot)) → length (shown_from n slots) ≤ length slots
shown_few n [] = omega arith
shown_few n (None ∷ slots) = omega (arith, shown_few (n + 1) slots)
shown_few n (Some s ∷ slots) = omega (arith, shown_few (n + 1) slots)

all_taken_from : (n : ℕ) (slots : List (Option Slot)) → length (shown_from n slots) ≡ length slots → first_free slots ≡ length slots
all_taken_from n [] h = refl
all_taken_from n (None ∷ slots) h = absurd (omega (arith, shown_few (n + 1) slots))
all_taken_from n (Some s ∷ slots) h = let rest = all_taken_from (n + 1) slots (omega arith) in omega arith

-- where as many elements are live as there are slots, none is free
pub all_taken : (slots : List (Option Slot)) → length (shown slots) ≡ length slots → first_free slots ≡ length slots
all_taken slots h = all_taken_from 0 slots h

none_free_from : (n : ℕ) (slots : List (Option Slot)) → length slots ≤ first_free slots → length (shown_from n slots) ≡ length slots
none_free_from n [] h = refl
none_free_from n (None ∷ slots) h = absurd (omega arith)
none_free_from n (Some s ∷ slots) h = let rest = none_free_from (n + 1) slots (omega arith) in omega arith

-- where none is free, as many elements are live as there are slots
pub none_free : (slots : List (Option Slot)) → length slots ≤ first_free slots → length (shown slots) ≡ length slots
none_free slots h = none_free_from 0 slots h

-- the first of the elements shown from n on has at least number n
starts : (n m : ℕ) (slots : List (Option Slot)) → m < n → unused_from m (shown_from n slots) ≡ m
starts n m [] h = refl
starts n m (None ∷ slots) h = starts (n + 1) m slots (omega arith)
starts n m (Some s ∷ slots) h = let ne : n ≢ m = omega arith in rw (ne_eqb n m ne) refl

unused-shown_from : (n : ℕ) (slots : List (Option Slot)) → unused_from n (shown_from n slots) ≡ n + first_free slots
unused-shown_from n [] = omega arith
unused-shown_from n (None ∷ slots) = starts (n + 1) n slots (omega arith) ∙ omega arith
unused-shown_from n (Some s ∷ slots) = rw (eq-eqb n n refl) (unused-shown_from (n + 1) slots ∙ omega arith)

-- the least unused number is that of the first free slot
pub unused_shown : (slots : List (Option Slot)) → unused (shown slots) ≡ first_free slots
unused_shown slots = unused-shown_from 0 slots ∙ omega arith

before_all : (n : ℕ) (slots : List (Option Slot)) (x : Element) → x.number < n → placed x (shown_from n slots) ≡ x ∷ shown_from n slots
before_all n [] x h = refl
before_all n (None ∷ slots) x h = before_all (n + 1) slots x (omega arith)
before_all n (Some s ∷ slots) x h = rw (lt-ltb x.number n h) refl

shown-placed_from : (n m : ℕ) (slots : List (Option Slot)) (s : Slot) → m ≡ n + first_free slots → first_free slots < length slots
    → shown_from n (set slots (first_free slots) (Some s)) ≡ placed (element_of m s) (shown_from n slots)
shown-placed_from n m [] s e below = absurd (omega arith)
shown-placed_from n m (None ∷ slots) s e below = let same : m ≡ n = omega arith in rw same (sym (before_all (n + 1) slots (element_of n s) (omega arith)))
shown-placed_from n m (Some t ∷ slots) s e below =
    let rest = shown-placed_from (n + 1) m slots s (omega arith) (omega arith) in
    rw (le-ltb m n (omega arith)) (ap (λ (es : List Element). element_of n t ∷ es) rest)

-- the slot shows the new element at its place by number
pub shown-placed : (slots : List (Option Slot)) (s : Slot) → first_free slots < length slots → shown (set slots (first_free slots) (Some s)) ≡ placed (element_of (first_free slots) s) (shown slots)
shown-placed slots s below = shown-placed_from 0 (first_free slots) slots s (omega arith) below

one_more_from : (n : ℕ) (slots : List (Option Slot)) (s : Slot) → first_free slots < length slots → length (shown_from n (set slots (first_free slots) (Some s))) ≡ length (shown_from n slots) + 1
one_more_from n [] s below = absurd (omega arith)
one_more_from n (None ∷ slots) s below = omega arith
one_more_from n (Some t ∷ slots) s below = omega (arith, one_more_from (n + 1) slots s (omega arith))

-- one element more is live
pub one_more : (slots : List (Option Slot)) (s : Slot) → first_free slots < length slots → length (shown (set slots (first_free slots) (Some s))) ≡ length (shown slots) + 1
one_more slots s below = one_more_from 0 slots s below

-- ---- a free slot more

first_free-pushed : (slots : List (Option Slot)) → first_free (slots ++ None ∷ []) ≡ first_free slots
first_free-pushed [] = refl
first_free-pushed (None ∷ slots) = refl
first_free-pushed (Some s ∷ slots) = ap suc (first_free-pushed slots)

slot_at-pushed : (slots : List (Option Slot)) (k : ℕ) → slot_at (slots ++ None ∷ []) k ≡ slot_at slots k
slot_at-pushed [] zero = refl
slot_at-pushed [] (suc k) = refl
slot_at-pushed (o ∷ slots) zero = refl
slot_at-pushed (o ∷ slots) (suc k) = slot_at-pushed slots k

shown-pushed_from : (n : ℕ) (slots : List (Option Slot)) → shown_from n (slots ++ None ∷ []) ≡ shown_from n slots
shown-pushed_from n [] = refl
shown-pushed_from n (None ∷ slots) = shown-pushed_from (n + 1) slots
shown-pushed_from n (Some s ∷ slots) = ap (λ (es : List Element). element_of n s ∷ es) (shown-pushed_from (n + 1) slots)

-- what the slots hold, where one of a number is made
module _ (n : ℕ) (slots : List (Option Slot)) where
  pub first_free-opened : first_free (opened n slots) ≡ first_free slots
  first_free-opened = cond_both (nat_lt n (length slots)) slots (slots ++ None ∷ []) (λ l. first_free l ≡ first_free slots) (λ below. refl) (λ last. first_free-pushed slots)

  pub slot_at-opened : (k : ℕ) → slot_at (opened n slots) k ≡ slot_at slots k
  slot_at-opened k = cond_both (nat_lt n (length slots)) slots (slots ++ None ∷ []) (λ l. slot_at l k ≡ slot_at slots k) (λ below. refl) (λ last. slot_at-pushed slots k)

  pub shown-opened : shown (opened n slots) ≡ shown slots
  shown-opened = cond_both (nat_lt n (length slots)) slots (slots ++ None ∷ []) (λ l. shown l ≡ shown slots) (λ below. refl) (λ last. shown-pushed_from 0 slots)

  pub pairs-opened : pairs_of (opened n slots) ≡ pairs_of slots
  pairs-opened = cond_both (nat_lt n (length slots)) slots (slots ++ None ∷ []) (λ l. pairs_of l ≡ pairs_of slots) (λ below. refl) (λ last. pairs-pushed slots)

  pub within-opened : n ≤ length slots → n < length (opened n slots)
  within-opened h = cond_both (nat_lt n (length slots)) slots (slots ++ None ∷ []) (λ l. n < length l) (λ below. ltb-true n (length slots) below) (λ last. omega (arith, length-append slots (None ∷ [])))

-- where fewer elements are live than may be, there is room for the slot
pub length-opened : (slots : List (Option Slot)) → length slots ≤ max_elements → length (shown slots) < max_elements → length (opened (first_free slots) slots) ≤ max_elements
length-opened slots few room =
    cond_both (nat_lt (first_free slots) (length slots)) slots (slots ++ None ∷ []) (λ l. length l ≤ max_elements) (λ below. few)
    (λ last. omega (arith, length-append slots (None ∷ []), none_free slots (ltb-false (first_free slots) (length slots) last)))

pub opened_before : (n : ℕ) (slots : List (Option Slot)) → n < length slots → opened n slots ≡ slots
opened_before n slots h = rw (lt-ltb n (length slots) h) refl

pub opened_last : (n : ℕ) (slots : List (Option Slot)) → length slots ≤ n → opened n slots ≡ slots ++ None ∷ []
opened_last n slots h = rw (le-ltb n (length slots) h) refl

-- ---- the first that is free, by runs

pub run_split : (run xs : List (Option Slot)) → run ≡ take (length run) xs → run ++ drop (length run) xs ≡ xs
run_split run xs e = ap (λ (l : List (Option Slot)). l ++ drop (length run) xs) e ∙ take-append-drop (length run) xs

free_before : (run rest : List (Option Slot)) → first_free run < length run → first_free (run ++ rest) ≡ first_free run
free_before [] rest h = absurd (omega arith)
free_before (None ∷ run) rest h = refl
free_before (Some s ∷ run) rest h = ap suc (free_before run rest (omega arith))

free_behind : (run rest : List (Option Slot)) → length run ≤ first_free run → first_free (run ++ rest) ≡ length run + first_free rest
free_behind [] rest h = omega arith
free_behind (None ∷ run) rest h = absurd (omega arith)
free_behind (Some s ∷ run) rest h = omega (arith, free_behind run rest (omega arith))

pub free_in_run : (run xs : List (Option Slot)) → run ≡ take (length run) xs → first_free run < length run → first_free xs ≡ first_free run
free_in_run run xs e h = ap first_free (sym (run_split run xs e)) ∙ free_before run (drop (length run) xs) h

pub free_past_run : (run : List (Option Slot)) (n : ℕ) (xs : List (Option Slot)) → run ≡ take (length run) (drop n xs) → length run ≤ first_free run
    → (first_free (drop n xs) ≡ length run + first_free (drop (n + length run) xs)) × (length run ≤ length (drop n xs))
free_past_run run n xs e h =
    let split = run_split run (drop n xs) e in (
      ap first_free (sym split) ∙ free_behind run (drop (length run) (drop n xs)) h ∙ ap (λ l. length run + first_free l) (drop-drop (length run) n xs),
      omega (arith, ap (λ (l : List (Option Slot)). length l) split, length-append run (drop (length run) (drop n xs))),
    )
