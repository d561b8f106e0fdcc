-- A list of associations none of which is on what contains the element gives no right on it.
use Rattle.std.proofs.Common.{◌≡◌, ℕ, ◌+◌, ◌*◌, ◌/◌, ◌%◌, ◌<◌, ◌==◌, ◌&&◌, ◌||◌, not, Bool, true, false, List, [], ◌∷◌, ◌++◌, slice_get, Option, Some, None, bit_and, refl, sym, ap, ◌∙◌, arith, inl, inr}
use Rattle.std.specs.Int.{bit_at}
use Rattle.std.specs.List.{list_any}
use Rattle.std.proofs.lemmas.Bool.{cases_Bool, true≢false, eqb-true, eq-eqb}
use Rattle.std.proofs.lemmas.Nat.Bits.{bit_at-zero}
use Rattle.std.proofs.Math.Nat.{mod-lt}
use Rattle.pm_model.specs.Grants.{is_in, is_on, is_told, TellPlaces}
use Rattle.pm_model.specs.declared.grants.PlaceWord.{PlaceWord}
use Rattle.pm_model.specs.declared.rights.Grant.{Grant}
use Rattle.pm_model.specs.declared.rights.Grantee.{Grantee}
use Rattle.pm_model.specs.RightSet.{has_right}
use Rattle.pm_decide.specs.Gives.{gives, some_gives}
use Rattle.pm_decide.specs.Places.{some_on, NoneContains}
use Rattle.pm_decide.specs.Unmet.{passes, AreLeft}
use Rattle.pm_decide.specs.Sets.{IsSetOf}
use Rattle.pm_decide.proofs.RightSets.{has-and}

not-both : (a b : Bool) → (a && b) ≡ false → b ≡ true → a ≡ false
not-both true b none is = absurd (true≢false (sym is ∙ none))
not-both false b none is = refl

both : (a b : Bool) → (a && b) ≡ true → (a ≡ true) × (b ≡ true)
both true true h = (refl, refl)
both true false h = absurd (true≢false (sym h))
both false b h = absurd (true≢false (sym h))

neither : (a b : Bool) → (a || b) ≡ false → (a ≡ false) × (b ≡ false)
neither false b h = (refl, h)
neither true b h = absurd (true≢false h)

or-none : (a b : Bool) → a ≡ false → b ≡ false → (a || b) ≡ false
or-none false b h k = k
or-none true b h k = absurd (true≢false h)

or-right : (a b : Bool) → b ≡ true → (a || b) ≡ true
or-right true b h = refl
or-right false b h = h

no-right : (a b : Bool) → ((a && false) && b) ≡ false
no-right true b = refl
no-right false b = refl

module _ (below : ℕ → ℕ → Bool) (e : ℕ) where
  -- a word that has no bit in common with the row of what contains e
  pub none-in : (place : PlaceWord) (row : ℕ) → ((i : ℕ) → i < 64 → (bit_at row i == 1) ≡ below e (64 * place.k + i)) → bit_and row place.word ≡ 0 →
      (n : ℕ) → is_in n place ≡ true → below e n ≡ false
  none-in place row is none n there =
      let parts = both (place.k == n / 64) (bit_at place.word (n % 64) == 1) there in
      let here : place.k ≡ n / 64 = eqb-true place.k (n / 64) parts.0 in
      let same : 64 * place.k + n % 64 ≡ n = omega (arith, here) in
      let apart = sym (has-and row place.word (n % 64)) ∙ ap (λ w. has_right w (n % 64)) none ∙ rw (bit_at-zero (n % 64)) refl in
      sym (ap (below e) same) ∙ sym (is (n % 64) (mod-lt n (omega arith))) ∙ not-both (has_right row (n % 64)) (has_right place.word (n % 64)) apart parts.1

  pub none-more : (places : List PlaceWord) (place : PlaceWord) → NoneContains below e places → ((n : ℕ) → is_in n place ≡ true → below e n ≡ false) →
      NoneContains below e (places ++ place ∷ [])
  none-more [] place none more n there = elim (cases_Bool (is_in n place)) [
    | inl t ↦ more n t
    | inr f ↦ absurd (true≢false (sym there ∙ rw f refl))
  ]
  none-more (x ∷ xs) place none more n there = elim (cases_Bool (is_in n x)) [
    | inl t ↦ none n (rw t refl)
    | inr f ↦ none-more xs place (λ m told. none m (or-right (is_in m x) (is_told xs m) told)) more n (sym (rw f refl) ∙ there)
  ]

  on-none : (grants : List Grant) → ((n : ℕ) → list_any (is_on n) grants ≡ true → below e n ≡ false) → some_on below e grants ≡ false
  on-none [] k = refl
  on-none (h ∷ hs) k =
      or-none (below e h.at) (some_on below e hs) (k h.at (rw (eq-eqb h.at h.at refl) refl))
      (on-none hs (λ n t. k n (or-right (is_on n h) (list_any (is_on n) hs) t)))

  -- what the words tell of is what the associations are on
  pub none-on : (places : List PlaceWord) (grants : List Grant) → TellPlaces places grants → NoneContains below e places → some_on below e grants ≡ false
  none-on places grants told none = on-none grants (λ n t. none n (told n ∙ t))

  -- then no association gives a right
  pub gives-none : (r pc : ℕ) (g : Grantee) → some_on below e g.grants ≡ false → some_gives below r e pc g ≡ false
  gives-none r pc g none = go g.grants none where
    go : (grants : List Grant) → some_on below e grants ≡ false → list_any (gives below r e pc) grants ≡ false
    go [] none = refl
    go (h ∷ hs) none =
        let parts = neither (below e h.at) (some_on below e hs) none in
        or-none (gives below r e pc h) (list_any (gives below r e pc) hs) (rw parts.0 (no-right (has_right h.rights r) (below h.at pc))) (go hs parts.1)

  -- so each class is left as it is
  pub left-all : (pcs : List ℕ) (word r : ℕ) (g : Grantee) → some_on below e g.grants ≡ false → AreLeft (λ pc. some_gives below r e pc g) pcs word word
  left-all pcs word r g none i low = as_is (slice_get pcs i) where
    stays : (b : Bool) → b ≡ (b && true)
    stays true = refl
    stays false = refl

    as_is : (o : Option ℕ) → (bit_at word i == 1) ≡ (bit_at word i == 1 && not (passes (λ pc. some_gives below r e pc g) o))
    as_is None = stays _
    as_is (Some pc) = rw (gives-none r pc g none) (stays _)

  -- and no right comes
  pub rights-none : (pc : ℕ) (g : Grantee) → some_on below e g.grants ≡ false → IsSetOf (λ r. some_gives below r e pc g) 0
  rights-none pc g none r low = rw (gives-none r pc g none, bit_at-zero r) refl
