-- Elements by rising number: the least unused number, and an element put at its place under it.
use Rattle.std.proofs.Common.{◌≡◌, ◌<◌, ◌≤◌, ◌+◌, ◌==◌, ℕ, List, [], ◌∷◌, length, Option, Some, None, IsSome, false, nat_lt, refl, sym, ◌∙◌, subst, arith, ne_eqb, eq-eqb, Contains, ◌⊎◌, inl, inr}
use Rattle.std.proofs.lemmas.Bool.{cond_both, le-ltb, lt-ltb, eqb-true, eqb-false}
use Rattle.pm_model.specs.State.{element_at, is_numbered}
use Rattle.pm_model.specs.Effect.{placed}
use Rattle.pm_model.specs.Resolve.{unused, unused_from}
use Rattle.pm_model.specs.Formed.{AreRising, IsLive}
use Rattle.pm_model.specs.declared.elements.Element.{Element}
use Rattle.pm_laws.proofs.Items.{contains-first, contains-rest, contains-cases, contains-none, find-found}

-- ---- a number and its element

pub rising-at : (n : ℕ) (es : List Element) (e : Element) → AreRising n es → Contains es e → n ≤ e.number
rising-at n [] e h c = contains-none e c
rising-at n (a ∷ es) e h c = elim (contains-cases a e es c) [
  | inl same ↦ rw (← same) h.0
  | inr below ↦ let rest = rising-at (a.number + 1) es e h.1 below in omega (arith, rest, h.0)
]

-- an element of the list is the one that is found by its number
pub stands-at : (n : ℕ) (es : List Element) (e : Element) → AreRising n es → Contains es e → element_at es e.number ≡ Some e
stands-at n [] e h c = contains-none e c
stands-at n (a ∷ es) e h c = elim (contains-cases a e es c) [
  | inl same ↦ rw (← same, eq-eqb a.number a.number refl) refl
  | inr below ↦
      let later = rising-at (a.number + 1) es e h.1 below in
      rw (ne_eqb a.number e.number (λ same. omega (arith, same, later))) (stands-at (a.number + 1) es e h.1 below)
]

pub found-at : (es : List Element) (n : ℕ) (e : Element) → element_at es n ≡ Some e → Contains es e × (e.number ≡ n)
found-at es n e h = let p = find-found (is_numbered n) es e h in (p.0, eqb-true e.number n p.1)

pub live-found : (es : List Element) (n : ℕ) → IsLive es n → (e : Element) × (element_at es n ≡ Some e)
live-found es n h = of (element_at es n) refl h where
  of : (o : Option Element) → element_at es n ≡ o → IsSome o → (e : Element) × (element_at es n ≡ Some e)
  of (Some e) is h = (e, is)
  of None is h = absurd (cc)

pub live-some : (es : List Element) (n : ℕ) (e : Element) → element_at es n ≡ Some e → IsLive es n
live-some es n e h = rw h refl

-- ---- the least unused number

unused_from-least : (n : ℕ) (es : List Element) → n ≤ unused_from n es
unused_from-least n [] = omega arith
unused_from-least n (e ∷ es) = let rest = unused_from-least (n + 1) es in
    cond_both (e.number == n) (unused_from (n + 1) es) n (λ u. n ≤ u) (λ is. omega (arith, rest)) (λ is. omega arith)

-- no element of the list has it
unused_from-apart : (n : ℕ) (es : List Element) (e : Element) → AreRising n es → Contains es e → e.number ≡ unused_from n es → ⊥
unused_from-apart n [] e h c = λ u. contains-none e c
unused_from-apart n (a ∷ es) e h c = cond_both (a.number == n) (unused_from (n + 1) es) n (λ u. e.number ≡ u → ⊥)
    (λ is u.
    let same : a.number ≡ n = eqb-true a.number n is in
    let least = unused_from-least (n + 1) es in
    elim (contains-cases a e es c) [
      | inl first ↦ let number : a.number ≡ e.number = rw first refl in omega (arith, number, same, u, least)
      | inr below ↦ unused_from-apart (n + 1) es e (subst (λ k. AreRising (k + 1) es) same h.1) below u
    ])
    (λ is u.
    let other : a.number ≡ n → ⊥ = eqb-false a.number n is in
    elim (contains-cases a e es c) [
      | inl first ↦ other (rw first u)
      | inr below ↦ let later = rising-at (a.number + 1) es e h.1 below in omega (arith, later, u, h.0)
    ])

-- what is live has another number
pub live-apart : (es : List Element) (n : ℕ) → AreRising 0 es → IsLive es n → n ≡ unused es → ⊥
live-apart es n h live u =
    let p = live-found es n live in
    let q = found-at es n p.0 p.1 in
    unused_from-apart 0 es p.0 h q.0 (q.1 ∙ u)

-- ---- an element more, at its place

module _ (x : Element) where
  -- before the first element, or after it
  pub placed-split : (P : List Element → Type 0) (e : Element) (es : List Element) → P (x ∷ e ∷ es) → P (e ∷ placed x es) →
      P (placed x (e ∷ es))
  placed-split P e es before after = cond_both (nat_lt x.number e.number) (x ∷ e ∷ es) (e ∷ placed x es) P (λ is. before) (λ is. after)

  pub placed-new : (es : List Element) → Contains (placed x es) x
  placed-new [] = contains-first x []
  placed-new (e ∷ es) = placed-split (λ l. Contains l x) e es
      (contains-first x (e ∷ es)) (contains-rest e x (placed x es) (placed-new es))

  pub placed-old : (es : List Element) (a : Element) → Contains es a → Contains (placed x es) a
  placed-old [] a c = contains-none a c
  placed-old (e ∷ es) a c = placed-split (λ l. Contains l a) e es (contains-rest x a (e ∷ es) c)
      (elim (contains-cases e a es c) [
        | inl same ↦ rw same (contains-first a (placed x es))
        | inr below ↦ contains-rest e a (placed x es) (placed-old es a below)
      ])

  pub placed-cases : (es : List Element) (a : Element) → Contains (placed x es) a → (x ≡ a) ⊎ Contains es a
  placed-cases [] a = contains-cases x a []
  placed-cases (e ∷ es) a = placed-split (λ l. Contains l a → (x ≡ a) ⊎ Contains (e ∷ es) a) e es
      (contains-cases x a (e ∷ es))
      (λ c. elim (contains-cases e a (placed x es) c) [
        | inl same ↦ inr (rw same (contains-first a es))
        | inr below ↦ elim (placed-cases es a below) [ inl new ↦ inl new | inr old ↦ inr (contains-rest e a es old) ]
      ])

  pub length-placed : (es : List Element) → length (placed x es) ≡ length es + 1
  length-placed [] = omega arith
  length-placed (e ∷ es) = let rest = length-placed es in
      placed-split (λ l. length l ≡ length (e ∷ es) + 1) e es (omega arith) (omega (arith, rest))

  -- what has another number is found as before
  pub placed-other : (es : List Element) (n : ℕ) → (x.number ≡ n → ⊥) → element_at (placed x es) n ≡ element_at es n
  placed-other [] n apart = rw (ne_eqb x.number n apart) refl
  placed-other (e ∷ es) n apart = placed-split (λ l. element_at l n ≡ element_at (e ∷ es) n) e es
      (rw (ne_eqb x.number n apart) refl) (rw (placed-other es n apart) refl)

  pub rising-placed : (n : ℕ) (es : List Element) → AreRising n es → x.number ≡ unused_from n es → AreRising n (placed x es)
  rising-placed n [] h = λ u. (omega (arith, u), tt)
  rising-placed n (e ∷ es) h = cond_both (e.number == n) (unused_from (n + 1) es) n (λ u. x.number ≡ u → AreRising n (placed x (e ∷ es)))
      (λ is u.
      let same : e.number ≡ n = eqb-true e.number n is in
      let least = unused_from-least (n + 1) es in
      let after : nat_lt x.number e.number ≡ false = le-ltb x.number e.number (omega (arith, u, least, same)) in
      rw after (h.0, rising-placed (e.number + 1) es h.1 (rw same u)))
      (λ is u.
      let other : e.number ≡ n → ⊥ = eqb-false e.number n is in
      let less : x.number < e.number = omega (arith, other, h.0, u) in
      rw (lt-ltb x.number e.number less) (omega (arith, u), (omega (arith, less), h.1)))

-- the new element is found by its number, and what was live is found as before
pub new-placed : (x : Element) (es : List Element) → AreRising 0 es → x.number ≡ unused es →
    element_at (placed x es) x.number ≡ Some x
new-placed x es h u = stands-at 0 (placed x es) x (rising-placed x 0 es h u) (placed-new x es)

pub live-placed : (x : Element) (es : List Element) (n : ℕ) → AreRising 0 es → x.number ≡ unused es → IsLive es n →
    element_at (placed x es) n ≡ element_at es n
live-placed x es n h u live = placed-other x es n (λ same. live-apart es n h live (sym same ∙ u))
