-- The first item of a list that passes a test, as it is found, as its place is found, and in words.
use Rattle.std.proofs.Common.{◌≡◌, ℕ, zero, suc, ◌+◌, ◌<◌, Bool, true, false, ◌&&◌, List, [], ◌∷◌, filter, Some, None, slice_get, refl, ◌∙◌, sym, ap, arith, ◌⊎◌, inl, inr}
use Rattle.std.specs.List.{All, find, position_from}
use Rattle.std.proofs.lemmas.Bool.{cases_lt}
use Rattle.std.proofs.lemmas.Option.{same_Some}
use Rattle.std.proofs.lemmas.List.Elements.{All-nil, All-cons, All-get_or}
use Rattle.std.proofs.lemmas.Option.{slice_get_within, get_or_from_slice_get}
use Rattle.pm_decide.specs.Meaning.{IsFirst}

-- ---- in words

module _ {X : Type 0} (Fits : X → Type 0) where
  -- only one item is the first
  pub first-one : (xs : List X) (i j : ℕ) (x y : X) → IsFirst Fits xs i x → IsFirst Fits xs j y → (i ≡ j) × (x ≡ y)
  first-one xs i j x y f g = elim (cases_lt i j) [
    | inl before ↦ absurd (g.none_before i x before f.there f.fits)
    | inr from ↦ elim (cases_lt j i) [
      | inl after ↦ absurd (f.none_before j y after g.there g.fits)
      | inr to ↦ let same : i ≡ j = omega (arith, from, to) in (same, same_Some x y (sym f.there ∙ rw same g.there))
    ]
  ]

  -- where none fits there is no first
  pub first-none : (xs : List X) (i : ℕ) (x : X) → All (λ y. Fits y → ⊥) xs → IsFirst Fits xs i x → ⊥
  first-none xs i x none f =
      let within = slice_get_within xs i x f.there in
      let here = get_or_from_slice_get xs i x x f.there in
      let no = All-get_or (λ y. Fits y → ⊥) xs i x within none in (rw here at no) f.fits

  -- the same in other words
  pub first-as : (Same : X → Type 0) → ((x : X) → Fits x → Same x) → ((x : X) → Same x → Fits x) → (xs : List X) (i : ℕ) (x : X) →
      IsFirst Fits xs i x → IsFirst Same xs i x
  first-as Same to from xs i x f =
      record { there = f.there; fits = to x f.fits; none_before = λ j y before is same. f.none_before j y before is (from y same) }

-- ---- as it is found

module _ {X : Type 0} (test : X → Bool) where
  abbrev Passes : X → Type 0
  Passes x = test x ≡ true

  -- none is found, or the first, at its place counted from n
  abbrev pub IsSought : ℕ → List X → Type 0
  IsSought n xs =
      ((find test xs ≡ None) × (position_from test n xs ≡ None) × All (λ x. test x ≡ true → ⊥) xs)
      ⊎ ((i : ℕ) × (x : X) × (find test xs ≡ Some x) × (position_from test n xs ≡ Some (n + i)) × IsFirst (λ x. test x ≡ true) xs i x)

  first-here : (x : X) (xs : List X) → test x ≡ true → IsFirst Passes (x ∷ xs) 0 x
  first-here x xs is = record { there = refl; fits = is; none_before = λ j y before there passes. absurd (omega (arith, before)) }

  first-later : (x : X) (xs : List X) (i : ℕ) (y : X) → test x ≡ false → IsFirst Passes xs i y → IsFirst Passes (x ∷ xs) (suc i) y
  first-later x xs i y is f = record { there = f.there; fits = f.fits; none_before = none } where
    none : (j : ℕ) (z : X) → j < suc i → slice_get (x ∷ xs) j ≡ Some z → test z ≡ true → ⊥
    none zero z before there passes = let same : x ≡ z = same_Some x z there in let no : test z ≡ false = rw same at is in cc
    none (suc j) z before there passes = f.none_before j z (omega (arith, before)) there passes

  pub sought : (n : ℕ) (xs : List X) → IsSought n xs
  sought n [] = inl (refl, refl, All-nil (λ x. test x ≡ true → ⊥))
  sought n (x ∷ xs) = by_test (test x) refl (sought (n + 1) xs) where
    by_test : (b : Bool) → test x ≡ b → IsSought (n + 1) xs → IsSought n (x ∷ xs)
    by_test true is rest = inr (0, x, rw is refl, rw is (ap Some (omega arith)), first-here x xs is)
    by_test false is (inl rest) =
        inl (rw is rest.0, rw is rest.1, All-cons (λ y. test y ≡ true → ⊥) x xs (λ passes. cc) rest.2)
    by_test false is (inr rest) =
        inr (suc rest.0, rest.1, rw is rest.2, rw is (rest.3 ∙ ap Some (omega arith)), first-later x xs rest.0 rest.1 is rest.4)

-- what is found behind a filter passes both tests
pub find-filter : {X : Type 0} (f p : X → Bool) (xs : List X) → find p (filter f xs) ≡ find (λ x. f x && p x) xs
find-filter f p [] = refl
find-filter f p (x ∷ xs) = by_test (f x) refl (find-filter f p xs) where
  by_test : (b : Bool) → f x ≡ b → find p (filter f xs) ≡ find (λ x. f x && p x) xs →
      find p (filter f (x ∷ xs)) ≡ find (λ x. f x && p x) (x ∷ xs)
  by_test true is rest = rw (is, rest) refl
  by_test false is rest = rw (is, rest) refl
