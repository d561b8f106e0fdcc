-- What is made in the end, whatever the order, and how many turns there are where that is all.
use Rattle.std.proofs.Common.{zero, suc, ◌≡◌, ◌<◌, ◌+◌, ℕ, Bool, true, false, not, List, [], ◌∷◌, length, get_or, slice_set, replicate, Option, None, Some, inl, inr, refl, sym, ◌∙◌, ap, subst, arith, if◌then◌else◌}
use Rattle.std.specs.List.{list_all}
use Rattle.std.proofs.lemmas.Bool.{cases_Bool, cases_eq}
use Rattle.std.proofs.lemmas.List.{get_or-set_other, length-set}
use Rattle.pm_order.specs.Ranked.{can_make, first_from, ranked, then_ranks, AreDue, IsStuck}
use Rattle.pm_order.proofs.Free.{and_parts}
use Rattle.pm_order.proofs.Least.{first-within}
use Rattle.pm_order.proofs.Ranks.{none-marked}

not-true : (b : Bool) → not b ≡ true → b ≡ false
not-true false h = refl
not-true true h = absurd (cc)

-- ---- one more is made

all-of : (made all : List Bool) (xs : List ℕ) → ((i : ℕ) → get_or made i false ≡ true → get_or all i false ≡ true) →
    list_all (λ j. get_or made j false) xs ≡ true → list_all (λ j. get_or all j false) xs ≡ true
all-of made all [] sub h = refl
all-of made all (x ∷ xs) sub h =
    let p = and_parts (get_or made x false) (list_all (λ j. get_or made j false) xs) h in
    let this = sub x p.0 in
    let rest = all-of made all xs sub p.1 in rw (this, rest) refl

module _ (above : List (List ℕ)) where
  pub due-none : (n : ℕ) → AreDue above (replicate n false)
  due-none n end stuck i h = absurd (let none : false ≡ true = sym (none-marked n i) ∙ h in cc)

  pub due-more : (made : List Bool) (k : ℕ) → k < length above → can_make made k (get_or above k []) ≡ true → AreDue above made → AreDue above (slice_set made k true)
  due-more made k there is due end stuck i h = elim (cases_eq i k) [
    | inl same ↦ elim (cases_Bool (get_or end k false)) [
      | inl marked ↦ subst (λ j. get_or end j false ≡ true) (sym same) marked
      | inr other ↦
          let p = and_parts (not (get_or made k false)) (list_all (λ j. get_or made j false) (get_or above k [])) is in
          let all = all-of made end (get_or above k []) (λ j m. due end stuck j m) p.1 in
          absurd (stuck k (there, rw (other, all) refl))
    ]
    | inr other ↦ due end stuck i (sym (get_or-set_other made k i true false other) ∙ h)
  ]

-- ---- how many aren't made

abbrev unmade : List Bool → ℕ
unmade [] = 0
unmade (b ∷ bs) = if b then unmade bs else suc (unmade bs)

unmade-none : (n : ℕ) → unmade (replicate n false) ≡ n
unmade-none zero = refl
unmade-none (suc n) = let rest = unmade-none n in omega (arith, rest)

unmade-all : (bs : List Bool) → ((i : ℕ) → i < length bs → get_or bs i false ≡ true) → unmade bs ≡ 0
unmade-all [] h = refl
unmade-all (b ∷ bs) h =
    let this : b ≡ true = h 0 (omega arith) in
    let rest = unmade-all bs (λ i below. h (suc i) (omega (arith, below))) in rw this rest

unmade-set : (bs : List Bool) (k : ℕ) → k < length bs → get_or bs k false ≡ false → unmade bs ≡ suc (unmade (slice_set bs k true))
unmade-set [] k below h = absurd (omega (arith, below))
unmade-set (b ∷ bs) zero below h = let this : b ≡ false = h in rw this refl
unmade-set (b ∷ bs) (suc k) below h =
    let rest = unmade-set bs k (omega (arith, below)) h in elim (cases_Bool b) [
      | inl is ↦ rw is rest
      | inr other ↦ rw other (ap suc rest)
    ]

-- ---- the first that can be made

first-unmade : (i : ℕ) (made : List Bool) (xs : List (List ℕ)) (k : ℕ) → first_from i made xs ≡ Some k → get_or made k false ≡ false
first-unmade i made [] k h = absurd (cc)
first-unmade i made (x ∷ xs) k h = elim (cases_Bool (can_make made i x)) [
  | inl is ↦
      let same : i ≡ k = (let found = rw is at h in cc) in
      subst (λ m. get_or made m false ≡ false) same (not-true (get_or made i false) (and_parts (not (get_or made i false)) (list_all (λ j. get_or made j false) x) is).0)
  | inr other ↦ first-unmade (i + 1) made xs k (rw other at h)
]

none-first : (i : ℕ) (made : List Bool) (xs : List (List ℕ)) → first_from i made xs ≡ None → (j : ℕ) → j < length xs → can_make made (i + j) (get_or xs j []) ≡ true → ⊥
none-first i made [] h j below is = absurd (omega (arith, below))
none-first i made (x ∷ xs) h j below is = elim (cases_Bool (can_make made i x)) [
  | inl found ↦ absurd (let this = rw found at h in cc)
  | inr other ↦ of j below is other (λ k. none-first (i + 1) made xs (rw other at h) k)
] where
  of : (j : ℕ) → j < length (x ∷ xs) → can_make made (i + j) (get_or (x ∷ xs) j []) ≡ true → can_make made i x ≡ false →
      ((k : ℕ) → k < length xs → can_make made ((i + 1) + k) (get_or xs k []) ≡ true → ⊥) → ⊥
  of zero below is other further =
      let this = subst (λ m. can_make made m x ≡ true) (let e : i + 0 ≡ i = omega arith in e) is in
      absurd (let both : true ≡ false = sym this ∙ other in cc)
  of (suc j) below is other further =
      further j (omega (arith, below)) (subst (λ m. can_make made m (get_or xs j []) ≡ true) (let e : i + suc j ≡ (i + 1) + j = omega arith in e) is)

stuck-none : (above : List (List ℕ)) (made : List Bool) → first_from 0 made above ≡ None → IsStuck above made
stuck-none above made h i free =
    none-first 0 made above h i free.0 (subst (λ m. can_make made m (get_or above i []) ≡ true) (let e : i ≡ 0 + i = omega arith in e) free.1)

-- ---- all have their turns

module _ (above : List (List ℕ)) where
  -- once no further one can be made, all are, if these are
  abbrev AreAllAfter : List Bool → Type 0
  AreAllAfter made = (end : List Bool) → IsStuck above end → ((i : ℕ) → get_or made i false ≡ true → get_or end i false ≡ true) → (i : ℕ) → i < length above → get_or end i false ≡ true

  after-more : (made : List Bool) (k : ℕ) → get_or made k false ≡ false → AreAllAfter made → AreAllAfter (slice_set made k true)
  after-more made k un h end stuck sub = h end stuck (λ i is. sub i (get_or-set_other made k i true false (λ same. absurd (let both : true ≡ false = sym is ∙ subst (λ j. get_or made j false ≡ false) (sym same) un in cc)) ∙ is))

  ranks-all : (n : ℕ) (made : List Bool) → length made ≡ length above → unmade made ≡ n → AreAllAfter made → length (ranked above n made) ≡ n
  ranks-all zero made same many h = refl
  ranks-all (suc n) made same many h = of (first_from 0 made above) refl (λ k. ranks-all n (slice_set made k true)) where
    of : (o : Option ℕ) → first_from 0 made above ≡ o →
        ((k : ℕ) → length (slice_set made k true) ≡ length above → unmade (slice_set made k true) ≡ n → AreAllAfter (slice_set made k true) → length (ranked above n (slice_set made k true)) ≡ n) →
        length (then_ranks o (λ k. ranked above n (slice_set made k true))) ≡ suc n
    of None is further =
        let all = h made (stuck-none above made is) (λ i m. m) in
        let none = unmade-all made (λ i below. all i (omega (arith, below, same))) in absurd (omega (arith, none, many))
    of (Some k) is further =
        let un = first-unmade 0 made above k is in
        let low = first-within 0 made above k is in
        let fewer = unmade-set made k (omega (arith, low, same)) un in
        let rest = further k (length-set made k true ∙ same) (omega (arith, fewer, many)) (after-more made k un h) in omega (arith, rest)

  all-marked : (bs : List Bool) → list_all (λ mark. mark) bs ≡ true → (i : ℕ) → i < length bs → get_or bs i false ≡ true
  all-marked [] h i below = absurd (omega (arith, below))
  all-marked (b ∷ bs) h zero below = (and_parts b (list_all (λ mark. mark) bs) h).0
  all-marked (b ∷ bs) h (suc i) below = all-marked bs (and_parts b (list_all (λ mark. mark) bs) h).1 i (omega (arith, below))

  length-none : (n : ℕ) → length (replicate n false) ≡ n
  length-none zero = refl
  length-none (suc n) = let rest = length-none n in omega (arith, rest)

  pub all-due : (made : List Bool) → length made ≡ length above → AreDue above made → list_all (λ mark. mark) made ≡ true →
      length (ranked above (length above) (replicate (length above) false)) ≡ length above
  all-due made same due marked = ranks-all (length above) (replicate (length above) false) (length-none (length above)) (unmade-none (length above))
      (λ end stuck sub i below. due end stuck i (all-marked made marked i (omega (arith, below, same))))
