-- One list with rights put into it.
use Rattle.std.proofs.Common.{◌≡◌, ℕ, zero, suc, ◌+◌, ◌≤◌, ◌<◌, Bool, true, false, ◌==◌, nat_lt, List, [], ◌∷◌, length, Some, slice_get, insert, remove, refl, sym, ap, ◌∙◌, arith, if◌then◌else◌, ne_eqb, inl, inr, subst}
use Rattle.std.proofs.lemmas.Bool.{cond_both, ltb-true, ltb-false, eqb-true, eqb-false, cases_Bool}
use Rattle.pm_model.specs.Reviews.{pair}
use Rattle.pm_model.specs.declared.reviews.Pair.{Pair}
use Rattle.pm_affect.specs.Lists.{IsInOrder, Rise}
use Rattle.pm_affect.specs.Puts.{elements_of, place, put, unless_empty, without_at}
use Rattle.pm_affect.specs.Right.{rights_at}
use Rattle.pm_affect.proofs.Order.{nothing-below, in_order-lower, same-list}
use Rattle.pm_affect.proofs.Places.{rise-at}

-- ---- a put

module _ (n r : ℕ) where
  unless-order : (low : ℕ) (ps : List Pair) → low ≤ n → IsInOrder (n + 1) ps → IsInOrder low (unless_empty n r ps)
  unless-order low ps least h = go (r == 0) refl where
    go : (b : Bool) → (r == 0) ≡ b → IsInOrder low (unless_empty n r ps)
    go true is = rw is (in_order-lower (n + 1) low ps (omega (arith, least)) h)
    go false is = rw is (least, is, h)

  pub put-order : (low : ℕ) (ps : List Pair) → low ≤ n → IsInOrder low ps → IsInOrder low (put n r ps)
  put-order low [] least h = unless-order low [] least tt
  put-order low (p ∷ ps) least h = cond_both (nat_lt p.element n) (p ∷ put n r ps) (if p.element == n then unless_empty n r ps else unless_empty n r (p ∷ ps)) (IsInOrder low)
      (λ is. let below = ltb-true p.element n is in (h.0, h.1, put-order (p.element + 1) ps (omega (arith, below)) h.2))
      (λ is.
      let above = ltb-false p.element n is in
      cond_both (p.element == n) (unless_empty n r ps) (unless_empty n r (p ∷ ps)) (IsInOrder low)
      (λ at. unless-order low ps least (subst (λ k. IsInOrder (k + 1) ps) (eqb-true p.element n at) h.2))
      (λ apart. let other = eqb-false p.element n apart in unless-order low (p ∷ ps) least (omega (arith, above, other), h.1, h.2)))

  unless-rights : (m : ℕ) (ps : List Pair) → IsInOrder (n + 1) ps → rights_at (unless_empty n r ps) m ≡ (if n == m then r else rights_at ps m)
  unless-rights m ps h = go (r == 0) (n == m) refl refl where
    go : (b d : Bool) → (r == 0) ≡ b → (n == m) ≡ d → rights_at (unless_empty n r ps) m ≡ (if n == m then r else rights_at ps m)
    go true true is at =
        let same = eqb-true n m at in
        rw (is, at) (nothing-below (n + 1) m ps h (omega (arith, same)) ∙ sym (eqb-true r 0 is))
    go true false is at = rw (is, at) refl
    go false d is at = rw is refl

  -- there it has these rights, and elsewhere what it had
  pub put-rights : (low m : ℕ) (ps : List Pair) → IsInOrder low ps → rights_at (put n r ps) m ≡ (if n == m then r else rights_at ps m)
  put-rights low m [] h = unless-rights m [] tt
  put-rights low m (p ∷ ps) h = cond_both (nat_lt p.element n) (p ∷ put n r ps) (if p.element == n then unless_empty n r ps else unless_empty n r (p ∷ ps))
      (λ l. rights_at l m ≡ (if n == m then r else rights_at (p ∷ ps) m))
      (λ is. behind (ltb-true p.element n is) (put-rights (p.element + 1) m ps h.2))
      (λ is.
      let above = ltb-false p.element n is in
      cond_both (p.element == n) (unless_empty n r ps) (unless_empty n r (p ∷ ps)) (λ l. rights_at l m ≡ (if n == m then r else rights_at (p ∷ ps) m))
      (λ at. let same = eqb-true p.element n at in unless-rights m ps (subst (λ k. IsInOrder (k + 1) ps) same h.2) ∙ instead same)
      (λ apart. let other = eqb-false p.element n apart in unless-rights m (p ∷ ps) (omega (arith, above, other), h.1, h.2))) where
        behind : p.element < n → rights_at (put n r ps) m ≡ (if n == m then r else rights_at ps m) →
            rights_at (p ∷ put n r ps) m ≡ (if n == m then r else rights_at (p ∷ ps) m)
        behind below rest = elim (cases_Bool (p.element == m)) [
          | inl at ↦ let same = eqb-true p.element m at in rw (at, ne_eqb n m (λ e. omega (arith, e, same, below))) refl
          | inr apart ↦ rw (apart, rest) refl
        ]

        instead : p.element ≡ n → (if n == m then r else rights_at ps m) ≡ (if n == m then r else rights_at (p ∷ ps) m)
        instead same = elim (cases_Bool (n == m)) [
          | inl at ↦ rw at refl
          | inr apart ↦ let other = eqb-false n m apart in rw (apart, ne_eqb p.element m (λ e. other (sym same ∙ e))) refl
        ]

-- where it has them already, nothing changes
pub put-same : (n r : ℕ) (ps : List Pair) → IsInOrder 0 ps → rights_at ps n ≡ r → ps ≡ put n r ps
put-same n r ps h is = same-list 0 ps (put n r ps) h (put-order n r 0 ps (omega arith) h) (λ m. sym (put-rights n r 0 m ps h ∙ at m)) where
  at : (m : ℕ) → (if n == m then r else rights_at ps m) ≡ rights_at ps m
  at m = elim (cases_Bool (n == m)) [
    | inl same ↦ rw same (sym is ∙ ap (rights_at ps) (eqb-true n m same))
    | inr other ↦ rw other refl
  ]

-- ---- at its place

pub element-at : (ps : List Pair) (i : ℕ) (p : Pair) → slice_get ps i ≡ Some p → slice_get (elements_of ps) i ≡ Some p.element
element-at [] i p is = absurd (cc)
element-at (q ∷ ps) zero p is = let same : q ≡ p = cc in rw same refl
element-at (q ∷ ps) (suc i) p is = element-at ps i p is

pub order-rise : (low : ℕ) (ps : List Pair) → IsInOrder low ps → Rise low (elements_of ps)
order-rise low [] h = tt
order-rise low (p ∷ ps) h = (h.0, order-rise (p.element + 1) ps h.2)

pub out-removed : (n i : ℕ) (ps : List Pair) (p : Pair) → slice_get ps i ≡ Some p → (p.element == n) ≡ true → remove ps i ≡ without_at n i ps
out-removed n i [] p is here = absurd (cc)
out-removed n zero (q ∷ ps) p is here = let same : q ≡ p = cc in rw (same, here) refl
out-removed n (suc i) (q ∷ ps) p is here = ap (λ l. q ∷ l) (out-removed n i ps p is here)

pub out-other : (n i : ℕ) (ps : List Pair) (p : Pair) → slice_get ps i ≡ Some p → (p.element == n) ≡ false → ps ≡ without_at n i ps
out-other n i [] p is here = absurd (cc)
out-other n zero (q ∷ ps) p is here = let same : q ≡ p = cc in rw (same, here) refl
out-other n (suc i) (q ∷ ps) p is here = ap (λ l. q ∷ l) (out-other n i ps p is here)

pub out-past : (n i : ℕ) (ps : List Pair) → length ps ≤ i → ps ≡ without_at n i ps
out-past n i [] past = refl
out-past n zero (q ∷ ps) past = absurd (omega (arith, past))
out-past n (suc i) (q ∷ ps) past = ap (λ l. q ∷ l) (out-past n i ps (omega (arith, past)))

-- out, and in again unless the rights are empty
pub put-empty : (n r : ℕ) (ps : List Pair) → (r == 0) ≡ true → without_at n (place n (elements_of ps)) ps ≡ put n r ps
put-empty n r [] none = rw none refl
put-empty n r (p ∷ ps) none = go (nat_lt p.element n) refl (put-empty n r ps none) where
  go : (b : Bool) → nat_lt p.element n ≡ b → without_at n (place n (elements_of ps)) ps ≡ put n r ps →
      without_at n (place n (elements_of (p ∷ ps))) (p ∷ ps) ≡ put n r (p ∷ ps)
  go true is rest = rw is (ap (λ l. p ∷ l) rest)
  go false is rest = rw (is, none) refl

pub put-some : (n r : ℕ) (ps : List Pair) → (r == 0) ≡ false → insert (without_at n (place n (elements_of ps)) ps) (place n (elements_of ps)) (pair n r) ≡ put n r ps
put-some n r [] some = rw some refl
put-some n r (p ∷ ps) some = go (nat_lt p.element n) (p.element == n) refl refl (put-some n r ps some) where
  go : (b d : Bool) → nat_lt p.element n ≡ b → (p.element == n) ≡ d → insert (without_at n (place n (elements_of ps)) ps) (place n (elements_of ps)) (pair n r) ≡ put n r ps →
      insert (without_at n (place n (elements_of (p ∷ ps))) (p ∷ ps)) (place n (elements_of (p ∷ ps))) (pair n r) ≡ put n r (p ∷ ps)
  go true d is at rest = rw is (ap (λ l. p ∷ l) rest)
  go false true is at rest = rw (is, at, some) refl
  go false false is at rest = rw (is, at, some) refl

pub length-out : (n : ℕ) (ps : List Pair) → place n (elements_of ps) ≤ length (without_at n (place n (elements_of ps)) ps)
length-out n [] = omega arith
length-out n (p ∷ ps) = let rest = length-out n ps in
    cond_both (nat_lt p.element n) (suc (place n (elements_of ps))) 0 (λ k. k ≤ length (without_at n k (p ∷ ps))) (λ is. omega (arith, rest)) (λ is. omega arith)

-- ---- what it has at the place of a number

pub at-place : (low n i : ℕ) (ps : List Pair) (p : Pair) → IsInOrder low ps → slice_get ps i ≡ Some p → (p.element == n) ≡ true →
    p.rights ≡ rights_at ps n
at-place low n i [] p h is here = absurd (cc)
at-place low n zero (q ∷ ps) p h is here = let same : q ≡ p = cc in rw (same, here) refl
at-place low n (suc i) (q ∷ ps) p h is here =
    let above = rise-at (q.element + 1) i p.element (elements_of ps) (order-rise (q.element + 1) ps h.2) (element-at ps i p is) in
    let at = eqb-true p.element n here in
    rw (ne_eqb q.element n (λ same. omega (arith, same, above, at))) (at-place (q.element + 1) n i ps p h.2 is here)

pub at-other : (low n i : ℕ) (ps : List Pair) (p : Pair) → IsInOrder low ps → i ≡ place n (elements_of ps) → slice_get ps i ≡ Some p →
    (p.element == n) ≡ false → rights_at ps n ≡ 0
at-other low n i [] p h at is other = refl
at-other low n i (q ∷ ps) p h at is other =
    go (λ there. at-other (q.element + 1) n (place n (elements_of ps)) ps p h.2 refl there other) (nat_lt q.element n) refl where
      go : (slice_get ps (place n (elements_of ps)) ≡ Some p → rights_at ps n ≡ 0) → (b : Bool) → nat_lt q.element n ≡ b → rights_at (q ∷ ps) n ≡ 0
      go rest true lower =
          let below = ltb-true q.element n lower in
          let next : i ≡ suc (place n (elements_of ps)) = rw lower at at in
          let there : slice_get ps (place n (elements_of ps)) ≡ Some p = rw next at is in
          rw (ne_eqb q.element n (λ same. omega (arith, same, below))) (rest there)
      go rest false above =
          let first : i ≡ 0 = rw above at at in
          let same : q ≡ p = of (rw first at is) in
          rw (ap (λ (p : Pair). p.element == n) same ∙ other)
          (nothing-below (q.element + 1) n ps h.2 (
          let least = ltb-false q.element n above in
          let apart = eqb-false p.element n other in
          let number : q.element ≡ p.element = ap (λ (p : Pair). p.element) same in omega (arith, least, apart, number))) where
            of : slice_get (q ∷ ps) 0 ≡ Some p → q ≡ p
            of is = cc

pub at-end : (low n : ℕ) (ps : List Pair) → IsInOrder low ps → length ps ≤ place n (elements_of ps) → rights_at ps n ≡ 0
at-end low n [] h past = refl
at-end low n (q ∷ ps) h past = go (λ rest. at-end (q.element + 1) n ps h.2 rest) (nat_lt q.element n) refl where
  go : (length ps ≤ place n (elements_of ps) → rights_at ps n ≡ 0) → (b : Bool) → nat_lt q.element n ≡ b → rights_at (q ∷ ps) n ≡ 0
  go further true lower =
      let below = ltb-true q.element n lower in
      let rest : suc (length ps) ≤ suc (place n (elements_of ps)) = rw lower at past in
      rw (ne_eqb q.element n (λ same. omega (arith, same, below))) (further (omega (arith, rest)))
  go further false above = let none : suc (length ps) ≤ 0 = rw above at past in absurd (omega (arith, none))
