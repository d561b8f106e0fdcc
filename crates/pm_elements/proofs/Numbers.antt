-- The numbers that a walk along the slots lists.
use Rattle.std.proofs.Common.{◌≡◌, ℕ, ◌+◌, ◌≤◌, Bool, true, false, List, [], ◌∷◌, ◌++◌, length, length-append, append_assoc, drop, take, slice_get, Option, Some, None, refl, sym, ap, ◌∙◌, arith}
use Rattle.std.proofs.lemmas.Bool.{true≢false, false≢true}
use Rattle.std.proofs.lemmas.List.{drop-drop}
use Rattle.pm_model.proofs.Walks.{drop-item}
use Rattle.pm_model.specs.Reviews.{numbers_in, users_in}
use Rattle.pm_elements.specs.declared.listing.Which.{Which}
use Rattle.pm_elements.specs.declared.listing.Which.TheVariants.{All, Users}
use Rattle.pm_elements.specs.declared.slots.Slot.{Slot}
use Rattle.pm_elements.specs.Numbers.{is_listed, numbers_from}
use Rattle.pm_elements.specs.Slots.{shown, shown_from}
use Rattle.pm_elements.proofs.Placing.{run_split}

-- ---- one slot

numbers-first : (which : Which) (n : ℕ) (o : Option Slot) (slots : List (Option Slot)) → true ≡ is_listed which o →
    numbers_from which n (o ∷ slots) ≡ n ∷ numbers_from which (n + 1) slots
numbers-first which n None slots is = absurd (true≢false is)
numbers-first All n (Some s) slots is = refl
numbers-first Users n (Some s) slots is = rw (← is) refl

numbers-others : (which : Which) (n : ℕ) (o : Option Slot) (slots : List (Option Slot)) → false ≡ is_listed which o →
    numbers_from which n (o ∷ slots) ≡ numbers_from which (n + 1) slots
numbers-others which n None slots is = refl
numbers-others All n (Some s) slots is = absurd (false≢true is)
numbers-others Users n (Some s) slots is = rw (← is) refl

module _ (which : Which) (first n : ℕ) (slots : List (Option Slot)) (o : Option Slot) (so_far : List ℕ) (at : slice_get slots n ≡ Some o) where
  pub slot_listed : true ≡ is_listed which o →
      (so_far ++ (first + n) ∷ []) ++ numbers_from which (first + (n + 1)) (drop (n + 1) slots) ≡ so_far ++ numbers_from which (first + n) (drop n slots)
  slot_listed is =
      let next : first + (n + 1) ≡ first + n + 1 = omega arith in
      rw (drop-item slots n o at, numbers-first which (first + n) o (drop (n + 1) slots) is, next)
      (append_assoc so_far ((first + n) ∷ []) (numbers_from which (first + n + 1) (drop (n + 1) slots)))

  pub slot_passed : false ≡ is_listed which o →
      so_far ++ numbers_from which (first + (n + 1)) (drop (n + 1) slots) ≡ so_far ++ numbers_from which (first + n) (drop n slots)
  slot_passed is =
      let next : first + (n + 1) ≡ first + n + 1 = omega arith in
      rw (drop-item slots n o at, numbers-others which (first + n) o (drop (n + 1) slots) is, next) refl

-- ---- a run of slots

numbers-append : (which : Which) (n : ℕ) (xs ys : List (Option Slot)) → numbers_from which n (xs ++ ys) ≡ numbers_from which n xs ++ numbers_from which (n + length xs) ys
numbers-append which n [] ys = let same : n + 0 ≡ n = omega arith in rw same refl
numbers-append which n (o ∷ xs) ys = go (is_listed which o) refl (numbers-append which (n + 1) xs ys) where
  next : n + 1 + length xs ≡ n + length (o ∷ xs)
  next = omega arith

  go : (b : Bool) → b ≡ is_listed which o → numbers_from which (n + 1) (xs ++ ys) ≡ numbers_from which (n + 1) xs ++ numbers_from which (n + 1 + length xs) ys →
      numbers_from which n (o ∷ xs ++ ys) ≡ numbers_from which n (o ∷ xs) ++ numbers_from which (n + length (o ∷ xs)) ys
  go true is rest = rw (numbers-first which n o (xs ++ ys) is, numbers-first which n o xs is, ← next) (ap (λ l. n ∷ l) rest)
  go false is rest = rw (numbers-others which n o (xs ++ ys) is, numbers-others which n o xs is, ← next) rest

pub run_listed : (which : Which) (from : ℕ) (run slots : List (Option Slot)) (so_far : List ℕ) → run ≡ take (length run) (drop from slots) →
    (so_far ++ numbers_from which from run) ++ numbers_from which (from + length run) (drop (from + length run) slots) ≡ so_far ++ numbers_from which from (drop from slots)
run_listed which from run slots so_far is =
    append_assoc so_far (numbers_from which from run) (numbers_from which (from + length run) (drop (from + length run) slots))
    ∙ ap (λ l. so_far ++ l) (
    ap (λ l. numbers_from which from run ++ numbers_from which (from + length run) l) (sym (drop-drop (length run) from slots))
    ∙ sym (numbers-append which from run (drop (length run) (drop from slots)))
    ∙ ap (numbers_from which from) (run_split run (drop from slots) is)
    )

pub run_within : (run : List (Option Slot)) (from : ℕ) (slots : List (Option Slot)) → run ≡ take (length run) (drop from slots) → length run ≤ length (drop from slots)
run_within run from slots is =
    omega (arith, ap (λ (l : List (Option Slot)). length l) (run_split run (drop from slots) is), length-append run (drop (length run) (drop from slots)))

-- ---- all of them

pub all_numbers : (slots : List (Option Slot)) → numbers_from All 0 slots ≡ numbers_in (shown slots)
all_numbers slots = go 0 slots where
  go : (n : ℕ) (slots : List (Option Slot)) → numbers_from All n slots ≡ numbers_in (shown_from n slots)
  go n [] = refl
  go n (None ∷ slots) = go (n + 1) slots
  go n (Some s ∷ slots) = ap (λ l. n ∷ l) (go (n + 1) slots)

pub user_numbers : (slots : List (Option Slot)) → numbers_from Users 0 slots ≡ users_in (shown slots)
user_numbers slots = refl
