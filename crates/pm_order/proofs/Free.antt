-- The places at which an element can be made, as a set.
use Rattle.std.proofs.Common.{zero, suc, ◌≡◌, ◌≤◌, ◌<◌, ◌+◌, ◌↔◌, ◌⊎◌, ◌&&◌, ℕ, Bool, true, false, not, List, [], ◌∷◌, ◌++◌, length, get_or, slice_set, Some, None, Contains, inl, inr, refl, sym, ◌∙◌, ap, subst, arith}
use Rattle.std.specs.List.{list_all}
use Rattle.std.proofs.lemmas.Bool.{cases_Bool, cases_eq}
use Rattle.std.proofs.lemmas.List.{get_or-set_same, get_or-set_other}
use Rattle.std.proofs.lemmas.List.Elements.{Contains-append_left, Contains-push, Contains-push_cases}
use Rattle.pm_laws.proofs.Items.{contains-first, contains-none, contains-rest}
use Rattle.pm_order.specs.Ranked.{can_make, first_from, AreChildren, AreFree, IsFree, IsTaken}

-- ---- tests

pub and_parts : (a b : Bool) → (a && b) ≡ true → (a ≡ true) × (b ≡ true)
and_parts true b h = (refl, h)
and_parts false b h = absurd (cc)

true-not-false : true ≡ false → ⊥
true-not-false h = absurd (cc)

-- ---- one place more

module _ (above : List (List ℕ)) (made : List Bool) where
  abbrev pub AddsPlace : ℕ → List ℕ → List ℕ → Type 0
  AddsPlace place old new = (i : ℕ) → Contains new i ↔ (Contains old i ⊎ ((i ≡ place) × IsFree above made i))

  -- those below n
  abbrev pub AreFreeTo : ℕ → List ℕ → Type 0
  AreFreeTo n places = (i : ℕ) → Contains places i ↔ ((i < n) × IsFree above made i)

  pub to-more : (n : ℕ) (old new : List ℕ) → AreFreeTo n old → AddsPlace n old new → AreFreeTo (n + 1) new
  to-more n old new h added i = (to, from) where
    to : Contains new i → (i < n + 1) × IsFree above made i
    to c = elim ((added i).0 c) [
      | inl before ↦ let p = (h i).0 before in let less = p.0 in (omega (arith, less), p.1)
      | inr this ↦ let same = this.0 in (omega (arith, same), this.1)
    ]

    from : (i < n + 1) × IsFree above made i → Contains new i
    from p = elim (cases_eq i n) [
      | inl same ↦ (added i).1 (inr (same, p.1))
      | inr other ↦ let less = p.0 in (added i).1 (inl ((h i).1 (omega (arith, less, other), p.1)))
    ]

  pub to-all : (n : ℕ) (places : List ℕ) → length above ≤ n → AreFreeTo n places → AreFree places above made
  to-all n places all h i = ((λ c. ((h i).0 c).1), (λ free. let there = free.0 in (h i).1 (omega (arith, there, all), free)))

  -- those that stood there, and what is free of some places
  abbrev pub AreFreeOf : List ℕ → List ℕ → List ℕ → Type 0
  AreFreeOf start ps places = (i : ℕ) → Contains places i ↔ (Contains start i ⊎ (Contains ps i × IsFree above made i))

  pub of-none : (start : List ℕ) → AreFreeOf start [] start
  of-none start i = ((λ c. inl c), (λ h. elim h [ inl c ↦ c | inr new ↦ contains-none i new.0 ]))

  pub of-more : (start ps : List ℕ) (p : ℕ) (old new : List ℕ) → AreFreeOf start ps old → AddsPlace p old new → AreFreeOf start (ps ++ p ∷ []) new
  of-more start ps p old new h added i = (to, from) where
    to : Contains new i → Contains start i ⊎ (Contains (ps ++ p ∷ []) i × IsFree above made i)
    to c = elim ((added i).0 c) [
      | inl before ↦ elim ((h i).0 before) [ inl first ↦ inl first | inr further ↦ inr (Contains-append_left ps (p ∷ []) i further.0, further.1) ]
      | inr this ↦ inr (subst (λ j. Contains (ps ++ p ∷ []) j) (sym this.0) (Contains-push ps p), this.1)
    ]

    from : Contains start i ⊎ (Contains (ps ++ p ∷ []) i × IsFree above made i) → Contains new i
    from (inl first) = (added i).1 (inl ((h i).1 (inl first)))
    from (inr c) = (added i).1 (elim (Contains-push_cases ps p i c.0) [ inl further ↦ inl ((h i).1 (inr (further, c.1))) | inr same ↦ inr (sym same, c.1) ])

-- ---- the first of them

first_there : (i : ℕ) (made : List Bool) (xs : List (List ℕ)) (k : ℕ) → k < length xs → can_make made (i + k) (get_or xs k []) ≡ true →
    ((j : ℕ) → j < k → can_make made (i + j) (get_or xs j []) ≡ false) → first_from i made xs ≡ Some (i + k)
first_there i made [] k below is none = absurd (omega (arith, below))
first_there i made (x ∷ xs) zero below is none =
    let this : can_make made i x ≡ true = subst (λ m. can_make made m x ≡ true) (let e : i + 0 ≡ i = omega arith in e) is in rw this (ap Some (omega arith))
first_there i made (x ∷ xs) (suc k) below is none =
    let this : can_make made i x ≡ false = subst (λ m. can_make made m x ≡ false) (let e : i + 0 ≡ i = omega arith in e) (none 0 (omega arith)) in
    rw this (subst (λ m. first_from (i + 1) made xs ≡ Some m) (let e : (i + 1) + k ≡ i + suc k = omega arith in e)
    (first_there (i + 1) made xs k (omega (arith, below))
    (subst (λ m. can_make made m (get_or xs k []) ≡ true) (let e : i + suc k ≡ (i + 1) + k = omega arith in e) is)
    (λ j h. subst (λ m. can_make made m (get_or xs j []) ≡ false) (let e : i + suc j ≡ (i + 1) + j = omega arith in e) (none (suc j) (omega (arith, h))))))

first_nowhere : (i : ℕ) (made : List Bool) (xs : List (List ℕ)) → ((j : ℕ) → j < length xs → can_make made (i + j) (get_or xs j []) ≡ false) → first_from i made xs ≡ None
first_nowhere i made [] none = refl
first_nowhere i made (x ∷ xs) none =
    let this : can_make made i x ≡ false = subst (λ m. can_make made m x ≡ false) (let e : i + 0 ≡ i = omega arith in e) (none 0 (omega arith)) in
    rw this (first_nowhere (i + 1) made xs
    (λ j h. subst (λ m. can_make made m (get_or xs j []) ≡ false) (let e : i + suc j ≡ (i + 1) + j = omega arith in e) (none (suc j) (omega (arith, h)))))

module _ (above : List (List ℕ)) (made : List Bool) where
  abbrev makes : ℕ → Bool
  makes j = can_make made j (get_or above j [])

  at_0 : (j : ℕ) (b : Bool) → makes j ≡ b → can_make made (0 + j) (get_or above j []) ≡ b
  at_0 j b h = subst (λ m. can_make made m (get_or above j []) ≡ b) (let e : j ≡ 0 + j = omega arith in e) h

  -- what can be made stands among these, and nothing else but what is made
  abbrev pub AreQueued : List ℕ → Type 0
  AreQueued places = ((i : ℕ) → IsFree above made i → Contains places i) × ((i : ℕ) → Contains places i → IsFree above made i ⊎ (get_or made i false ≡ true))

  pub queued-free : (places : List ℕ) → AreFree places above made → AreQueued places
  queued-free places free = ((λ i. (free i).1), (λ i c. inl ((free i).0 c)))

  unmade : (i : ℕ) → IsFree above made i → get_or made i false ≡ false
  unmade i h = of (get_or made i false) (and_parts (not (get_or made i false)) (list_all (λ j. get_or made j false) (get_or above i [])) h.1).0 where
    of : (b : Bool) → not b ≡ true → b ≡ false
    of false h = refl
    of true h = absurd (cc)

  pub queued-none : (places : List ℕ) → AreQueued places → ((i : ℕ) → Contains places i → get_or made i false ≡ true) → first_from 0 made above ≡ None
  queued-none places queued none = first_nowhere 0 made above (λ j below. at_0 j false (elim (cases_Bool (makes j)) [
    | inl is ↦ absurd (true-not-false (sym (none j (queued.0 j (below, is))) ∙ unmade j (below, is)))
    | inr other ↦ other
  ]))

  module _ (k : ℕ) (old new : List ℕ) (queued : AreQueued old) (taken : IsTaken k made old new) where
    pub taken-free : IsFree above made k
    taken-free = elim (queued.1 k taken.there) [ inl free ↦ free | inr is ↦ absurd (true-not-false (sym is ∙ taken.unmade)) ]

    pub taken-first : first_from 0 made above ≡ Some k
    taken-first =
        subst (λ m. first_from 0 made above ≡ Some m) (let e : 0 + k ≡ k = omega arith in e)
        (first_there 0 made above k taken-free.0 (at_0 k true taken-free.1) (λ j below. at_0 j false (elim (cases_Bool (makes j)) [
          | inl is ↦
              let within : j < length above = let t = taken-free.0 in omega (arith, below, t) in
              absurd (let least = taken.least j (queued.0 j (within, is)) (unmade j (within, is)) in omega (arith, below, least))
          | inr other ↦ other
        ])))

-- ---- one element more is made

marked-within : (made : List Bool) (k : ℕ) → get_or made k false ≡ true → k < length made
marked-within [] k h = absurd (cc)
marked-within (b ∷ bs) zero h = omega arith
marked-within (b ∷ bs) (suc k) h = let rest = marked-within bs k h in omega (arith, rest)

-- what isn't made, and what comes of a place that is
marks-kept : (made : List Bool) (k : ℕ) (xs : List ℕ) → list_all (λ j. get_or made j false) xs ≡ true → list_all (λ j. get_or (slice_set made k true) j false) xs ≡ true
marks-kept made k [] h = refl
marks-kept made k (x ∷ xs) h =
    let p = and_parts (get_or made x false) (list_all (λ j. get_or made j false) xs) h in
    let rest = marks-kept made k xs p.1 in
    let this : get_or (slice_set made k true) x false ≡ true = elim (cases_eq x k) [
      | inl same ↦ subst (λ j. get_or (slice_set made k true) j false ≡ true) (sym same) (get_or-set_same made k true false (marked-within made k (subst (λ j. get_or made j false ≡ true) same p.0)))
      | inr other ↦ get_or-set_other made k x true false other ∙ p.0
    ] in rw (this, rest) refl

marks-new : (made : List Bool) (k : ℕ) (xs : List ℕ) → list_all (λ j. get_or made j false) xs ≡ false → list_all (λ j. get_or (slice_set made k true) j false) xs ≡ true → Contains xs k
marks-new made k [] h new = absurd (cc)
marks-new made k (x ∷ xs) h new = elim (cases_eq x k) [
  | inl same ↦ subst (λ j. Contains (x ∷ xs) j) same (contains-first x xs)
  | inr other ↦
      let p = and_parts (get_or (slice_set made k true) x false) (list_all (λ j. get_or (slice_set made k true) j false) xs) new in
      let this : get_or made x false ≡ true = sym (get_or-set_other made k x true false other) ∙ p.0 in
      contains-rest x k xs (marks-new made k xs (rw this at h) p.1)
]

module _ (above : List (List ℕ)) (made : List Bool) (k : ℕ) (marked : k < length made) where
  -- what is free stays so, but the place itself
  free-kept : (i : ℕ) → (i ≡ k → ⊥) → IsFree above made i → IsFree above (slice_set made k true) i
  free-kept i other h =
      let p = and_parts (not (get_or made i false)) (list_all (λ j. get_or made j false) (get_or above i [])) h.1 in
      let mark : get_or (slice_set made k true) i false ≡ get_or made i false = get_or-set_other made k i true false other in
      let rest = marks-kept made k (get_or above i []) p.1 in
      (h.0, rw (mark, rest, p.0) refl)

  not-itself : (i : ℕ) → IsFree above (slice_set made k true) i → i ≡ k → ⊥
  not-itself i h same =
      let mark : get_or (slice_set made k true) k false ≡ true = get_or-set_same made k true false marked in
      let p = and_parts (not (get_or (slice_set made k true) i false)) (list_all (λ j. get_or (slice_set made k true) j false) (get_or above i [])) h.1 in
      let no : not (get_or (slice_set made k true) k false) ≡ true = subst (λ j. not (get_or (slice_set made k true) j false) ≡ true) same p.0 in
      true-not-false (sym (rw mark at no))

  -- what is free now was so, or has it for a container
  free-new : (i : ℕ) → IsFree above (slice_set made k true) i → IsFree above made i ⊎ Contains (get_or above i []) k
  free-new i h =
      let other = not-itself i h in
      let mark : get_or (slice_set made k true) i false ≡ get_or made i false = get_or-set_other made k i true false other in
      let p = and_parts (not (get_or (slice_set made k true) i false)) (list_all (λ j. get_or (slice_set made k true) j false) (get_or above i [])) h.1 in
      elim (cases_Bool (list_all (λ j. get_or made j false) (get_or above i []))) [
        | inl all ↦ inl (h.0, rw (sym mark, p.0, all) refl)
        | inr some ↦ inr (marks-new made k (get_or above i []) some p.1)
      ]

  kept-mark : (i : ℕ) → get_or made i false ≡ true → get_or (slice_set made k true) i false ≡ true
  kept-mark i h = elim (cases_eq i k) [
    | inl same ↦ subst (λ j. get_or (slice_set made k true) j false ≡ true) (sym same) (get_or-set_same made k true false marked)
    | inr other ↦ get_or-set_other made k i true false other ∙ h
  ]

  pub taken-made : (below : List (List ℕ)) (old new now : List ℕ) → AreChildren below above → AreQueued above made old → IsTaken k made old new →
      AreFreeOf above (slice_set made k true) new (get_or below k []) now → AreQueued above (slice_set made k true) now
  taken-made below old new now children queued taken added = (from, to) where
    from : (i : ℕ) → IsFree above (slice_set made k true) i → Contains now i
    from i is = (added i).1 (elim (free-new i is) [
      | inl before ↦ inl (elim (taken.kept i (queued.0 i before) (unmade above made i before)) [ inl same ↦ absurd (not-itself i is (sym same)) | inr further ↦ further ])
      | inr child ↦ inr ((children k i).1 child, is)
    ])

    stays : (i : ℕ) → IsFree above made i ⊎ (get_or made i false ≡ true) → IsFree above (slice_set made k true) i ⊎ (get_or (slice_set made k true) i false ≡ true)
    stays i (inr is) = inr (kept-mark i is)
    stays i (inl free) = elim (cases_eq i k) [
      | inl same ↦ inr (subst (λ j. get_or (slice_set made k true) j false ≡ true) (sym same) (get_or-set_same made k true false marked))
      | inr other ↦ inl (free-kept i other free)
    ]

    to : (i : ℕ) → Contains now i → IsFree above (slice_set made k true) i ⊎ (get_or (slice_set made k true) i false ≡ true)
    to i c = elim ((added i).0 c) [
      | inl before ↦ stays i (queued.1 i (taken.within i before))
      | inr new ↦ inl new.1
    ]
