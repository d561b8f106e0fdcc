-- One more assignment, at its place in the list: the list has the same items as with this one in front.
use Rattle.std.proofs.Common.{◌≡◌, ◌+◌, ℕ, List, [], ◌∷◌, length, nat_lt, arith, Contains, inl, inr}
use Rattle.std.proofs.lemmas.Bool.{cond_both}
use Rattle.pm_model.specs.Effect.{with_assignment}
use Rattle.pm_model.specs.Formed.{Each}
use Rattle.pm_laws.proofs.Items.{contains-first, contains-rest, contains-cases, each-at, each-from}

module _ (p : ℕ × ℕ) where
  -- before the first assignment, or after it
  pub added-split : (P : List (ℕ × ℕ) → Type 0) (q : ℕ × ℕ) (qs : List (ℕ × ℕ)) → P (p ∷ q ∷ qs) → P (q ∷ with_assignment p qs) →
      P (with_assignment p (q ∷ qs))
  added-split P q qs before after = cond_both (nat_lt p.0 q.0) (p ∷ q ∷ qs) (q ∷ with_assignment p qs) P (λ is. before) (λ is. after)

  pub added-has : (ps : List (ℕ × ℕ)) (r : ℕ × ℕ) → Contains (p ∷ ps) r → Contains (with_assignment p ps) r
  added-has [] r c = c
  added-has (q ∷ qs) r c =
      let further = λ (d : Contains (p ∷ qs) r). contains-rest q r (with_assignment p qs) (added-has qs r d) in
      added-split (λ l. Contains l r) q qs c (elim (contains-cases p r (q ∷ qs) c) [
        | inl new ↦ further (rw new (contains-first r qs))
        | inr old ↦ elim (contains-cases q r qs old) [
          | inl first ↦ rw first (contains-first r (with_assignment p qs))
          | inr below ↦ further (contains-rest p r qs below)
        ]
      ])

  pub has-added : (ps : List (ℕ × ℕ)) (r : ℕ × ℕ) → Contains (with_assignment p ps) r → Contains (p ∷ ps) r
  has-added [] r = λ c. c
  has-added (q ∷ qs) r = added-split (λ l. Contains l r → Contains (p ∷ q ∷ qs) r) q qs (λ c. c)
      (λ c. elim (contains-cases q r (with_assignment p qs) c) [
        | inl first ↦ contains-rest p r (q ∷ qs) (rw first (contains-first r qs))
        | inr below ↦ elim (contains-cases p r qs (has-added qs r below)) [
          | inl new ↦ rw new (contains-first r (q ∷ qs))
          | inr old ↦ contains-rest p r (q ∷ qs) (contains-rest q r qs old)
        ]
      ])

  pub length-added : (ps : List (ℕ × ℕ)) → length (with_assignment p ps) ≡ length ps + 1
  length-added [] = omega arith
  length-added (q ∷ qs) = let rest = length-added qs in
      added-split (λ l. length l ≡ length (q ∷ qs) + 1) q qs (omega arith) (omega (arith, rest))

  pub each-added : (P : (ℕ × ℕ) → Type 0) (ps : List (ℕ × ℕ)) → Each P ps → P p → Each P (with_assignment p ps)
  each-added P ps h new = each-from P (with_assignment p ps) (λ r c. each-at P (p ∷ ps) r (new, h) (has-added ps r c))
