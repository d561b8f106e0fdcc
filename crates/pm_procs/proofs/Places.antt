-- The place of a number among items by rising number.
use Rattle.std.proofs.Common.{◌≡◌, ℕ, zero, suc, ◌+◌, ◌<◌, ◌≤◌, ◌==◌, nat_lt, List, [], ◌∷◌, length, remove, filter, find, position, not, Bool, true, false, cond, None, Some, is_some, option_and_then, refl, sym, ◌∙◌, ap, inl, inr, arith, ne_eqb, eq-eqb}
use Rattle.std.specs.List.{list_any, slice_get, position_or_len}
use Rattle.std.proofs.lemmas.Bool.{lt-ltb, le-ltb, ltb-false, ltb-true, eqb-true, or_parts, cases_lt}
use Rattle.std.proofs.lemmas.Bool.Decides.{nat_tests}
use Rattle.std.proofs.lemmas.List.Folds.{find_at}
use Rattle.std.proofs.lemmas.Option.{slice_get_past, slice_get_within}
use Rattle.pm_pages.specs.Paged.{Paged, IsOwn, OwnWhere}
use Rattle.pm_procs.specs.Rising.{AreRising, IsCut}

next_lt : (a b : ℕ) → nat_lt (suc a) (suc b) ≡ nat_lt a b
next_lt a b = grind (arith, nat_tests)

-- ---- the first place that passes a test

module _ {X : Type 0} (p : X → Bool) where
  place-here : (x : X) (xs : List X) → p x ≡ true → position_or_len p (x ∷ xs) ≡ 0
  place-here x xs is = rw is refl

  place-further : (x : X) (xs : List X) → p x ≡ false → position_or_len p (x ∷ xs) ≡ suc (position_or_len p xs)
  place-further x xs is = rw is (omega arith)

  place-at : (xs : List X) (i : ℕ) → Some i ≡ position p xs → position_or_len p xs ≡ i
  place-at xs i is = either (nat_lt (position_or_len p xs) (length xs)) is where
    either : (b : Bool) → Some i ≡ cond b (Some (position_or_len p xs)) None → position_or_len p xs ≡ i
    either true same = cc
    either false same = cc

  any-place : (xs : List X) → nat_lt (position_or_len p xs) (length xs) ≡ list_any p xs
  any-place [] = refl
  any-place (x ∷ xs) = either (any-place xs) (p x) refl where
    either : nat_lt (position_or_len p xs) (length xs) ≡ list_any p xs → (b : Bool) → p x ≡ b →
        nat_lt (position_or_len p (x ∷ xs)) (length (x ∷ xs)) ≡ list_any p (x ∷ xs)
    either rest true is = rw (place-here x xs is, is) (lt-ltb 0 (length (x ∷ xs)) (omega arith))
    either rest false is = rw (place-further x xs is, next_lt (position_or_len p xs) (length xs), is) rest

  pub is_some-position : (xs : List X) → is_some (position p xs) ≡ list_any p xs
  is_some-position xs = rw (any-place xs) (either (list_any p xs)) where
    either : (b : Bool) → is_some (cond b (Some (position_or_len p xs)) None) ≡ b
    either true = refl
    either false = refl

  find-position : (xs : List X) → find p xs ≡ option_and_then (slice_get xs) (position p xs)
  find-position xs = rw (find_at p xs) (either (nat_lt (position_or_len p xs) (length xs)) refl) where
    either : (b : Bool) → nat_lt (position_or_len p xs) (length xs) ≡ b →
        slice_get xs (position_or_len p xs) ≡ option_and_then (slice_get xs) (cond b (Some (position_or_len p xs)) None)
    either true is = refl
    either false is = slice_get_past xs (position_or_len p xs) (ltb-false (position_or_len p xs) (length xs) is)

  pub find-placed : (xs : List X) (i : ℕ) → Some i ≡ position p xs → slice_get xs i ≡ find p xs
  find-placed xs i is = ap (option_and_then (slice_get xs)) is ∙ sym (find-position xs)

  pub find-absent : (xs : List X) → None ≡ position p xs → None ≡ find p xs
  find-absent xs none = ap (option_and_then (slice_get xs)) none ∙ sym (find-position xs)

  filter-none : (xs : List X) → list_any p xs ≡ false → filter (λ x. not (p x)) xs ≡ xs
  filter-none [] none = refl
  filter-none (x ∷ xs) none =
      let parts = or_parts (p x) (list_any p xs) none in rw parts.0 (ap (λ ys. x ∷ ys) (filter-none xs parts.1))

  pub filter-absent : (xs : List X) → None ≡ position p xs → xs ≡ filter (λ x. not (p x)) xs
  filter-absent xs none = sym (filter-none xs (sym (is_some-position xs) ∙ ap is_some (sym none)))

-- ---- the first place by what is said of each item

module _ {X : Type 0} (p : X → Bool) where
  stop : (xs : List X) (i : ℕ) (x : X) → ((k : ℕ) (y : X) → k < i → slice_get xs k ≡ Some y → p y ≡ false) →
      slice_get xs i ≡ Some x → p x ≡ true → position_or_len p xs ≡ i
  stop [] i x h here is = cc
  stop (y ∷ ys) zero x h here is = let e : p y ≡ true = cc in place-here p y ys e
  stop (y ∷ ys) (suc i) x h here is =
      place-further p y ys (h 0 y (omega arith) refl) ∙ ap suc (stop ys i x (λ k z b e. h (suc k) z (omega (arith, b)) e) here is)

  never : (xs : List X) → ((k : ℕ) (y : X) → slice_get xs k ≡ Some y → p y ≡ false) → position_or_len p xs ≡ length xs
  never [] h = refl
  never (y ∷ ys) h = place-further p y ys (h 0 y refl) ∙ ap suc (never ys (λ k z e. h (suc k) z e))

  pub position-at : (xs : List X) (i : ℕ) (x : X) → ((k : ℕ) (y : X) → k < i → slice_get xs k ≡ Some y → p y ≡ false) →
      slice_get xs i ≡ Some x → p x ≡ true → Some i ≡ position p xs
  position-at xs i x h here is = rw (stop xs i x h here is, lt-ltb i (length xs) (slice_get_within xs i x here)) refl

  pub position-none : (xs : List X) → ((k : ℕ) (y : X) → slice_get xs k ≡ Some y → p y ≡ false) → None ≡ position p xs
  position-none xs h = rw (never xs h, le-ltb (length xs) (length xs) (omega arith)) refl

  -- what stands at the place
  stands : (xs : List X) → position_or_len p xs < length xs → (y : X) × (slice_get xs (position_or_len p xs) ≡ Some y) × (p y ≡ true)
  stands [] below = absurd (omega (arith, below))
  stands (x ∷ xs) below = by (p x) refl (stands xs) below where
    by : (b : Bool) → p x ≡ b → (position_or_len p xs < length xs → (y : X) × (slice_get xs (position_or_len p xs) ≡ Some y) × (p y ≡ true)) →
        position_or_len p (x ∷ xs) < length (x ∷ xs) → (y : X) × (slice_get (x ∷ xs) (position_or_len p (x ∷ xs)) ≡ Some y) × (p y ≡ true)
    by true is rest h = rw (place-here p x xs is) (x, refl, is)
    by false is rest h = rw (place-further p x xs is) (rest (let e = place-further p x xs is in omega (arith, e, h)))

  pub found : (xs : List X) (i : ℕ) → Some i ≡ position p xs → (y : X) × (slice_get xs i ≡ Some y) × (p y ≡ true)
  found xs i is = rw (place-at p xs i is) at (stands xs (within (nat_lt (position_or_len p xs) (length xs)) refl is)) where
    within : (b : Bool) → nat_lt (position_or_len p xs) (length xs) ≡ b → Some i ≡ cond b (Some (position_or_len p xs)) None → position_or_len p xs < length xs
    within true less same = ltb-true (position_or_len p xs) (length xs) less
    within false less same = cc

  none-passes : (xs : List X) (k : ℕ) (x : X) → list_any p xs ≡ false → slice_get xs k ≡ Some x → p x ≡ true → ⊥
  none-passes [] k x none here is = cc
  none-passes (y ∷ ys) zero x none here is =
      let parts = or_parts (p y) (list_any p ys) none in let e : p y ≡ true = cc in let f = parts.0 in cc
  none-passes (y ∷ ys) (suc k) x none here is = none-passes ys k x (let parts = or_parts (p y) (list_any p ys) none in parts.1) here is

  pub absent : (xs : List X) → None ≡ position p xs → (k : ℕ) (x : X) → slice_get xs k ≡ Some x → p x ≡ true → ⊥
  absent xs none k x here is = none-passes xs k x (sym (is_some-position p xs) ∙ ap is_some (sym none)) here is

-- ---- numbers that rise

module _ {X : Type 0} (number : X → ℕ) where
  least : (low : ℕ) (xs : List X) (k : ℕ) (x : X) → AreRising number low xs → slice_get xs k ≡ Some x → low ≤ number x
  least low [] k x h here = cc
  least low (y ∷ ys) zero x h here = let e : number y ≡ number x = cc in omega (arith, e, h.0)
  least low (y ∷ ys) (suc k) x h here = let rest = least (number y + 1) ys k x h.1 here in omega (arith, rest, h.0)

  rises : (low : ℕ) (xs : List X) (i j : ℕ) (x y : X) → AreRising number low xs → i < j → slice_get xs i ≡ Some x → slice_get xs j ≡ Some y →
      number x < number y
  rises low [] i j x y h before ex ey = cc
  rises low (z ∷ zs) i zero x y h before ex ey = absurd (omega (arith, before))
  rises low (z ∷ zs) zero (suc j) x y h before ex ey =
      let e : number z ≡ number x = cc in let rest = least (number z + 1) zs j y h.1 ey in omega (arith, rest, e)
  rises low (z ∷ zs) (suc i) (suc j) x y h before ex ey = rises (number z + 1) zs i j x y h.1 (omega (arith, before)) ex ey

  -- one number stands in one place
  alike : (xs : List X) (i j : ℕ) (x y : X) → AreRising number 0 xs → slice_get xs i ≡ Some x → slice_get xs j ≡ Some y → number x ≡ number y → i ≡ j
  alike xs i j x y h ex ey same = elim (cases_lt i j) [
    | inl lower ↦ absurd (omega (arith, same, rises 0 xs i j x y h lower ex ey))
    | inr higher ↦ elim (cases_lt j i) [
      | inl lower ↦ absurd (omega (arith, same, rises 0 xs j i y x h lower ey ex))
      | inr other ↦ omega (arith, higher, other)
    ]
  ]

module _ {X : Type 0} (number : X → ℕ) (n : ℕ) where
  abbrev pub has_number : X → Bool
  has_number x = number x == n

  filter-above : (low : ℕ) (xs : List X) → AreRising number low xs → n < low → filter (λ x. not (has_number x)) xs ≡ xs
  filter-above low [] h below = refl
  filter-above low (x ∷ xs) h below =
      let other : (number x == n) ≡ false = ne_eqb (number x) n (λ same. omega (arith, same, h.0, below)) in
      rw other (ap (λ ys. x ∷ ys) (filter-above (number x + 1) xs h.1 (omega (arith, h.0, below))))

  -- the one that is taken out is the only one of its number
  remove-place : (low : ℕ) (xs : List X) → AreRising number low xs →
      remove xs (position_or_len has_number xs) ≡ filter (λ x. not (has_number x)) xs
  remove-place low [] h = refl
  remove-place low (x ∷ xs) h = either (remove-place (number x + 1) xs h.1) (number x == n) refl where
    either : remove xs (position_or_len has_number xs) ≡ filter (λ x. not (has_number x)) xs → (b : Bool) → (number x == n) ≡ b →
        remove (x ∷ xs) (position_or_len has_number (x ∷ xs)) ≡ filter (λ x. not (has_number x)) (x ∷ xs)
    either rest true is =
        rw (place-here has_number x xs is, is)
        (sym (filter-above (number x + 1) xs h.1 (omega (arith, eqb-true (number x) n is))))
    either rest false is = rw (place-further has_number x xs is, is) (ap (λ ys. x ∷ ys) rest)

  pub remove-placed : (xs : List X) (i : ℕ) → AreRising number 0 xs → Some i ≡ position has_number xs →
      remove xs i ≡ filter (λ x. not (has_number x)) xs
  remove-placed xs i h is = rw (← place-at has_number xs i is) (remove-place 0 xs h)

  -- the search by halves
  pub lower-before : (xs : List X) (m : ℕ) (y : X) → AreRising number 0 xs → slice_get xs m ≡ Some y → number y < n →
      (k : ℕ) (x : X) → k < m + 1 → slice_get xs k ≡ Some x → number x < n
  lower-before xs m y h middle less k x below here = elim (cases_lt k m) [
    | inl lower ↦ omega (arith, less, rises number 0 xs k m x y h lower here middle)
    | inr higher ↦ let e : k ≡ m = omega (arith, higher, below) in let there = rw e at here in let f : number x ≡ number y = cc in omega (arith, f, less)
  ]

  pub others-behind : (xs : List X) (m : ℕ) (y : X) → AreRising number 0 xs → slice_get xs m ≡ Some y → n ≤ number y →
      (k : ℕ) (x : X) → m ≤ k → slice_get xs k ≡ Some x → n ≤ number x
  others-behind xs m y h middle more k x behind here = elim (cases_lt m k) [
    | inl lower ↦ omega (arith, more, rises number 0 xs m k y x h lower middle here)
    | inr higher ↦ let e : k ≡ m = omega (arith, higher, behind) in let there = rw e at here in let f : number x ≡ number y = cc in omega (arith, f, more)
  ]

  pub cut-at_end : (xs : List X) (i : ℕ) → IsCut number n xs i → i ≡ length xs → None ≡ position has_number xs
  cut-at_end xs i cut end = position-none has_number xs (λ k y here. ne_eqb (number y) n (λ same.
      omega (arith, same, cut.lower k y (omega (arith, end, slice_get_within xs k y here)) here)))

  pub cut-at_another : (xs : List X) (i : ℕ) (x : X) → AreRising number 0 xs → IsCut number n xs i → slice_get xs i ≡ Some x → (number x ≡ n → ⊥) →
      None ≡ position has_number xs
  cut-at_another xs i x h cut here other = position-none has_number xs (λ k y there. ne_eqb (number y) n (λ same. elim (cases_lt k i) [
    | inl lower ↦ omega (arith, same, cut.lower k y lower there)
    | inr higher ↦ elim (cases_lt i k) [
      | inl lower ↦ omega (arith, same, cut.others i x (omega arith) here, rises number 0 xs i k x y h lower here there)
      | inr behind ↦ let e : k ≡ i = omega (arith, higher, behind) in let f = rw e at there in let g : number y ≡ number x = cc in other (sym g ∙ same)
    ]
  ]))

  pub cut-at_it : (xs : List X) (i : ℕ) (x : X) → IsCut number n xs i → slice_get xs i ≡ Some x → number x ≡ n → Some i ≡ position has_number xs
  cut-at_it xs i x cut here is =
      position-at has_number xs i x (λ k y lower there. ne_eqb (number y) n (λ same. omega (arith, same, cut.lower k y lower there))) here (eq-eqb (number x) n is)

  -- one that stands at a place is the first of its number, as no other has it
  pub placed-once : (xs : List X) (i : ℕ) (x : X) → AreRising number 0 xs → slice_get xs i ≡ Some x → number x ≡ n → Some i ≡ position has_number xs
  placed-once xs i x h here is =
      position-at has_number xs i x (λ k y lower there. ne_eqb (number y) n (λ same. omega (arith, same, is, rises number 0 xs k i y x h lower there here))) here
      (eq-eqb (number x) n is)

  -- ---- pages of a list's own

  pub own-found : (new : Paged X) (xs : List X) (i : ℕ) → new.items ≡ xs → AreRising number 0 xs → Some i ≡ position has_number xs → IsOwn new i → OwnWhere has_number new
  own-found new xs i same h is own = λ k x here test.
      let there = found has_number xs i is in
      let e : k ≡ i =
      alike number xs k i x there.0 h (rw same at here) there.1 (eqb-true (number x) n test ∙ sym (eqb-true (number there.0) n there.2)) in
      rw e own

  pub own-absent : (new : Paged X) → None ≡ position has_number new.items → OwnWhere has_number new
  own-absent new none = λ k x here test. absurd (absent has_number new.items none k x here test)

  pub found-own : (old : Paged X) (i : ℕ) → Some i ≡ position has_number old.items → OwnWhere has_number old → IsOwn old i
  found-own old i is own = let there = found has_number old.items i is in own i there.0 there.1 there.2
