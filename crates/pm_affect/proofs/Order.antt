-- One list: its order, what it has at a number, and that both determine it.
use Rattle.std.proofs.Common.{◌≡◌, ℕ, ◌+◌, ◌≤◌, ◌<◌, Bool, true, false, ◌==◌, nat_lt, List, [], ◌∷◌, map, filter, refl, sym, ap, ◌∙◌, arith, if◌then◌else◌, eq-eqb, ne_eqb, ◌⊎◌, inl, inr, subst}
use Rattle.std.proofs.lemmas.Bool.{ltb-true, ltb-false, eqb-true, eqb-false, cases_Bool}
use Rattle.pm_model.specs.Reviews.{pair, has_some}
use Rattle.pm_model.specs.declared.reviews.Pair.{Pair}
use Rattle.pm_affect.specs.Lists.{IsInOrder, Rise, is_among}
use Rattle.pm_affect.specs.Right.{rights_at}

-- those of the numbers at which there are rights, with these
abbrev pub listed : (ℕ → ℕ) → List ℕ → List Pair
listed rights ns = filter has_some (map (λ n. pair n (rights n)) ns)

-- below its first number a list has nothing
pub nothing-below : (low n : ℕ) (ps : List Pair) → IsInOrder low ps → n < low → rights_at ps n ≡ 0
nothing-below low n [] h below = refl
nothing-below low n (p ∷ ps) h below =
    rw (ne_eqb p.element n (λ same. omega (arith, same, h.0, below))) (nothing-below (p.element + 1) n ps h.2 (omega (arith, h.0, below)))

pub in_order-lower : (high low : ℕ) (ps : List Pair) → low ≤ high → IsInOrder high ps → IsInOrder low ps
in_order-lower high low [] less h = tt
in_order-lower high low (p ∷ ps) less h = (omega (arith, less, h.0), h.1, h.2)

-- ---- two lists in order that have the same at each number are one

-- the first pair of a list in order is what it has there
first-rights : (p : Pair) (ps : List Pair) → rights_at (p ∷ ps) p.element ≡ p.rights
first-rights p ps = rw (eq-eqb p.element p.element refl) refl

-- so no list in order has nothing there
not-below : (low : ℕ) (p : Pair) (ps qs : List Pair) → (p.rights == 0) ≡ false → IsInOrder low qs → p.element < low →
    rights_at (p ∷ ps) p.element ≡ rights_at qs p.element → ⊥
not-below low p ps qs some k below same =
    eqb-false p.rights 0 some (sym (first-rights p ps) ∙ same ∙ nothing-below low p.element qs k below)

pub same-pair : (p q : Pair) → p.element ≡ q.element → p.rights ≡ q.rights → p ≡ q
same-pair p q e f = rw (e, f) refl

pub same-list : (low : ℕ) (ps qs : List Pair) → IsInOrder low ps → IsInOrder low qs → ((n : ℕ) → rights_at ps n ≡ rights_at qs n) → ps ≡ qs
same-list low [] [] h k same = refl
same-list low [] (q ∷ qs) h k same = absurd (eqb-false q.rights 0 k.1 (sym (first-rights q qs) ∙ sym (same q.element)))
same-list low (p ∷ ps) [] h k same = absurd (eqb-false p.rights 0 h.1 (sym (first-rights p ps) ∙ same p.element))
same-list low (p ∷ ps) (q ∷ qs) h k same =
    elim (Ord-cases p.element q.element) [
      | inl below ↦ absurd (not-below q.element p ps (q ∷ qs) h.1 (omega arith, k.1, k.2) below (same p.element))
      | inr rest ↦ elim rest [
        | inl above ↦ absurd (not-below p.element q qs (p ∷ ps) k.1 (omega arith, h.1, h.2) above (sym (same q.element)))
        | inr at ↦
            let first : p ≡ q = same-pair p q at (sym (first-rights p ps) ∙ same p.element ∙ ap (rights_at (q ∷ qs)) at ∙ first-rights q qs) in
            let later : IsInOrder (p.element + 1) qs = subst (λ n. IsInOrder (n + 1) qs) (sym at) k.2 in
            let tails = same-list (p.element + 1) ps qs h.2 later (rest_same at later) in rw (first, tails) refl
      ]
    ] where
      Ord-cases : (m n : ℕ) → (m < n) ⊎ ((n < m) ⊎ (m ≡ n))
      Ord-cases m n = elim (cases_Bool (nat_lt m n)) [
        | inl is ↦ inl (ltb-true m n is)
        | inr not_below ↦ elim (cases_Bool (nat_lt n m)) [
          | inl is ↦ inr (inl (ltb-true n m is))
          | inr neither ↦ (let a = ltb-false m n not_below in let b = ltb-false n m neither in inr (inr (omega (arith, a, b))))
        ]
      ]

      rest_same : p.element ≡ q.element → IsInOrder (p.element + 1) qs → (n : ℕ) → rights_at ps n ≡ rights_at qs n
      rest_same at later n = elim (cases_Bool (p.element == n)) [
        | inl is ↦
            let e = eqb-true p.element n is in
            nothing-below (p.element + 1) n ps h.2 (omega (arith, e)) ∙ sym (nothing-below (p.element + 1) n qs later (omega (arith, e)))
        | inr apart ↦
            let other = eqb-false p.element n apart in
            sym (elsewhere p ps n apart) ∙ same n ∙ elsewhere q qs n (ne_eqb q.element n (λ e. other (at ∙ e)))
      ] where
        elsewhere : (p : Pair) (ps : List Pair) (n : ℕ) → (p.element == n) ≡ false → rights_at (p ∷ ps) n ≡ rights_at ps n
        elsewhere p ps n apart = rw apart refl

-- ---- the list that a review has to have

pub listed-order : (rights : ℕ → ℕ) (low : ℕ) (ns : List ℕ) → Rise low ns → IsInOrder low (listed rights ns)
listed-order rights low [] h = tt
listed-order rights low (n ∷ ns) h = go (rights n == 0) refl (listed-order rights (n + 1) ns h.1) where
  go : (b : Bool) → (rights n == 0) ≡ b → IsInOrder (n + 1) (listed rights ns) → IsInOrder low (listed rights (n ∷ ns))
  go true is rest = rw is (in_order-lower (n + 1) low (listed rights ns) (omega (arith, h.0)) rest)
  go false is rest = rw is (h.0, is, rest)

pub listed-rights : (rights : ℕ → ℕ) (ns : List ℕ) (m : ℕ) → rights_at (listed rights ns) m ≡ (if is_among ns m then rights m else 0)
listed-rights rights [] m = refl
listed-rights rights (n ∷ ns) m = go (rights n == 0) (n == m) refl refl (listed-rights rights ns m) where
  none : (b : Bool) → rights m ≡ 0 → (if b then rights m else 0) ≡ rights m
  none true zeroed = refl
  none false zeroed = sym zeroed

  go : (b d : Bool) → (rights n == 0) ≡ b → (n == m) ≡ d → rights_at (listed rights ns) m ≡ (if is_among ns m then rights m else 0) →
      rights_at (listed rights (n ∷ ns)) m ≡ (if is_among (n ∷ ns) m then rights m else 0)
  go true true is at rest =
      let same = eqb-true n m at in
      let zeroed : rights m ≡ 0 = sym (ap rights same) ∙ eqb-true (rights n) 0 is in
      rw (is, at) (rest ∙ none (is_among ns m) zeroed)
  go true false is at rest = rw (is, at) rest
  go false true is at rest = rw (is, at) (ap rights (eqb-true n m at))
  go false false is at rest = rw (is, at) rest
