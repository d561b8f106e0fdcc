-- The least rank that can be made, one rank at a time.
use Rattle.std.proofs.Common.{◌≡◌, ◌+◌, ◌<◌, ℕ, zero, suc, Bool, true, List, [], ◌∷◌, length, slice_set, Contains, Option, Some, None, inl, inr, refl, ap, arith}
use Rattle.std.proofs.lemmas.Bool.{cases_Bool}
use Rattle.pm_laws.proofs.Items.{contains-cases, contains-none}
use Rattle.pm_order.specs.Ranked.{can_make, first_from, ranked, then_ranks}

pub ranked_none : (xs : List (List ℕ)) (n : ℕ) (made : List Bool) → first_from 0 made xs ≡ None → ranked xs n made ≡ []
ranked_none xs zero made h = refl
ranked_none xs (suc n) made h = rw h refl

pub ranked_some : (xs : List (List ℕ)) (n m e : ℕ) (made : List Bool) → first_from 0 made xs ≡ Some e → m ≡ n + 1 →
    ranked xs m made ≡ e ∷ ranked xs n (slice_set made e true)
ranked_some xs n zero e made h is = absurd (omega (arith, is))
ranked_some xs n (suc m) e made h is = rw h (ap (λ k. e ∷ ranked xs k (slice_set made e true)) (omega (arith, is)))

-- ---- the places are ones that there are

pub first-within : (i : ℕ) (made : List Bool) (xs : List (List ℕ)) (k : ℕ) → first_from i made xs ≡ Some k → k < i + length xs
first-within i made [] k h = absurd (cc)
first-within i made (x ∷ xs) k h = elim (cases_Bool (can_make made i x)) [
  | inl is ↦ let same : i ≡ k = (let found = rw is at h in cc) in omega (arith, same)
  | inr other ↦ let rest = first-within (i + 1) made xs k (rw other at h) in omega (arith, rest)
]

pub ranked-within : (xs : List (List ℕ)) (n : ℕ) (made : List Bool) (k : ℕ) → Contains (ranked xs n made) k → k < length xs
ranked-within xs zero made k c = contains-none k c
ranked-within xs (suc n) made k c = of (first_from 0 made xs) (λ j is. first-within 0 made xs j is) (λ j d. ranked-within xs n (slice_set made j true) k d) c where
  of : (o : Option ℕ) → ((j : ℕ) → o ≡ Some j → j < 0 + length xs) → ((j : ℕ) → Contains (ranked xs n (slice_set made j true)) k → k < length xs) →
      Contains (then_ranks o (λ j. ranked xs n (slice_set made j true))) k → k < length xs
  of None within further c = contains-none k c
  of (Some j) within further c = elim (contains-cases j k (ranked xs n (slice_set made j true)) c) [
    | inl same ↦ let there = within j refl in omega (arith, same, there)
    | inr later ↦ further j later
  ]
