-- The elements whose entries are kept, among all elements.
use Rattle.std.proofs.Common.{All, ◌≡◌, ℕ, ◌+◌, ◌<◌, Bool, true, false, ◌==◌, ◌&&◌, nat_lt, List, [], ◌∷◌, filter, refl, sym, ap, ◌∙◌, arith, eq-eqb, ne_eqb, subst}
use Rattle.std.proofs.lemmas.Bool.{cond_both, eqb-true, eqb-false, ltb-true, ltb-false, or_left}
use Rattle.std.proofs.lemmas.List.Elements.{All-contains}
use Rattle.std.proofs.lemmas.Map.Views.{any-filter_same}
use Rattle.pm_model.specs.Formed.{Each}
use Rattle.pm_laws.proofs.Items.{any-found, each-all, each-to}
use Rattle.pm_affect.specs.Lists.{AreKept, Listed, Lists, Rise, is_among, subjects}
use Rattle.pm_affect.specs.Right.{AreCapsRight, AreEntriesRight, AreRight}
use Rattle.pm_affect.specs.declared.region.Region.{Region}
use Rattle.pm_affect.proofs.Places.{rise-apart, rise-lower}

-- two rising lists with the same numbers are one
module _ where
  first-among : (n : ℕ) (ns : List ℕ) → is_among (n ∷ ns) n ≡ true
  first-among n ns = or_left (n == n) (is_among ns n) (eq-eqb n n refl)

  lower-not : (a b : ℕ) (cs ds : List ℕ) → a < b → Rise (b + 1) ds → is_among (a ∷ cs) a ≡ is_among (b ∷ ds) a → ⊥
  lower-not a b cs ds less rise same =
      let none : is_among (b ∷ ds) a ≡ false = rise-apart b a (b ∷ ds) (omega arith, rise) less in
      let some = first-among a cs in cc

  same-rise : (low : ℕ) (cs ds : List ℕ) → Rise low cs → Rise low ds → ((n : ℕ) → is_among cs n ≡ is_among ds n) → cs ≡ ds
  same-rise low [] [] h k same = refl
  same-rise low [] (b ∷ ds) h k same = absurd (let e = same b in let some = first-among b ds in cc)
  same-rise low (a ∷ cs) [] h k same = absurd (let e = same a in let some = first-among a cs in cc)
  same-rise low (a ∷ cs) (b ∷ ds) h k same = go (nat_lt a b) (nat_lt b a) refl refl (λ at tails. same-rise (a + 1) cs ds h.1 (subst (λ n. Rise (n + 1) ds) (sym at) k.1) tails) where
    go : (x y : Bool) → nat_lt a b ≡ x → nat_lt b a ≡ y → (a ≡ b → ((n : ℕ) → is_among cs n ≡ is_among ds n) → cs ≡ ds) → (a ∷ cs) ≡ (b ∷ ds)
    go true y first second rest = absurd (lower-not a b cs ds (ltb-true a b first) k.1 (same a))
    go false true first second rest = absurd (lower-not b a ds cs (ltb-true b a second) h.1 (sym (same b)))
    go false false first second rest =
        let at : a ≡ b = (let x = ltb-false a b first in let y = ltb-false b a second in omega (arith, x, y)) in
        let tails : cs ≡ ds = rest at (later at) in rw (at, tails) refl where
          later : a ≡ b → (n : ℕ) → is_among cs n ≡ is_among ds n
          later at n = cases (a == n) refl where
            cases : (z : Bool) → (a == n) ≡ z → is_among cs n ≡ is_among ds n
            cases true is =
                let e = eqb-true a n is in
                rise-apart (a + 1) n cs h.1 (omega (arith, e)) ∙ sym (rise-apart (b + 1) n ds k.1 (omega (arith, e, at)))
            cases false other =
                let apart = eqb-false a n other in
                let second : (b == n) ≡ false = ne_eqb b n (λ e. apart (at ∙ e)) in
                let whole : is_among (a ∷ cs) n ≡ is_among (b ∷ ds) n = same n in rw (other, second) at whole

rise-filter : (test : ℕ → Bool) (low : ℕ) (ns : List ℕ) → Rise low ns → Rise low (filter test ns)
rise-filter test low [] h = tt
rise-filter test low (n ∷ ns) h = let rest = rise-filter test (n + 1) ns h.1 in
    cond_both (test n) (n ∷ filter test ns) (filter test ns) (Rise low)
    (λ is. (h.0, rest)) (λ is. rise-lower (n + 1) low (filter test ns) (omega (arith, h.0)) rest)

each-among : (elements : List ℕ) (ks : List Listed) → Each (λ (k : Listed). is_among elements k.subject ≡ true) ks →
    (n : ℕ) → is_among (subjects ks) n ≡ true → is_among elements n ≡ true
each-among elements [] h n is = absurd (cc)
each-among elements (k ∷ ks) h n is = go (λ rest. each-among elements ks h.1 n rest) (k.subject == n) refl where
  go : (is_among (subjects ks) n ≡ true → is_among elements n ≡ true) → (b : Bool) → (k.subject == n) ≡ b → is_among elements n ≡ true
  go rest true at = subst (λ n. is_among elements n ≡ true) (eqb-true k.subject n at) h.0
  go rest false other = rest (rw other at is)

-- the subjects, which are among the elements
subjects-among : (elements : List ℕ) (ks : List Listed) → Rise 0 (subjects ks) → Rise 0 elements →
    Each (λ (k : Listed). is_among elements k.subject ≡ true) ks → subjects ks ≡ filter (is_among (subjects ks)) elements
subjects-among elements ks first second h =
    same-rise 0 (subjects ks) (filter (is_among (subjects ks)) elements) first (rise-filter (is_among (subjects ks)) 0 elements second)
    (λ n. within n ∙ sym (any-filter_same (λ m. m == n) (is_among (subjects ks)) (is_among (subjects ks) n)
    (λ m is. ap (is_among (subjects ks)) (eqb-true m n is)) elements)) where
      within : (n : ℕ) → is_among (subjects ks) n ≡ (is_among (subjects ks) n && is_among elements n)
      within n = go (is_among (subjects ks) n) refl where
        go : (b : Bool) → is_among (subjects ks) n ≡ b → is_among (subjects ks) n ≡ (is_among (subjects ks) n && is_among elements n)
        go true is = rw (is, each-among elements ks h n is) refl
        go false is = rw is refl

pub kept-among : (below : ℕ → ℕ → Bool) (region : Region) (rights : ℕ → ℕ → ℕ) (elements users : List ℕ) (L : Lists) → AreKept L → Rise 0 elements →
    AreRight below region rights elements users L → subjects L.entries ≡ filter (is_among (subjects L.entries)) elements
kept-among below region rights elements users L kept rise h =
    subjects-among elements L.entries kept.entries.rise rise
    (each-to (AreEntriesRight below region rights elements users) (λ (k : Listed). is_among elements k.subject ≡ true) (λ k right. right.0) L.entries h.entries)

-- ---- the users whose capabilities are kept

module _ (P : ℕ → Type 0) where
  all-among : (us : List ℕ) (n : ℕ) → All P us → is_among us n ≡ true → P n
  all-among us n h is =
      let found = any-found (λ m. m == n) us is in subst P (eqb-true found.0 n found.2) (All-contains P us found.0 h found.1)

  each-live : (us : List ℕ) (ks : List Listed) → All P us → Each (λ (k : Listed). is_among us k.subject ≡ true) ks → Each P (subjects ks)
  each-live us [] h among = tt
  each-live us (k ∷ ks) h among = (all-among us k.subject h among.0, each-live us ks h among.1)

  pub caps-live : (below : ℕ → ℕ → Bool) (region : Region) (rights : ℕ → ℕ → ℕ) (elements users : List ℕ) (L : Lists) → All P users →
      AreRight below region rights elements users L → All P (subjects L.caps)
  caps-live below region rights elements users L h right =
      each-all P (subjects L.caps)
      (each-live users L.caps h
      (each-to (AreCapsRight below region rights elements users) (λ (k : Listed). is_among users k.subject ≡ true) (λ k r. r.0) L.caps right.caps))
