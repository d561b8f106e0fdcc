-- A right on an element is allowed exactly where the user has the privilege and no prohibition denies it, or the user is
-- root and the right administrative.
use Rattle.std.proofs.Common.{◌≡◌, ◌↔◌, ℕ, List, [], ◌∷◌, Option, Some, None, Bool, true, false, not, refl, ◌⊎◌, inl, inr, ◌==◌, ◌&&◌, nat_lt, nat_le, arith, eq-eqb}
use Rattle.std.proofs.lemmas.Bool.{cond_both, and_parts, and_from, or_cases, eqb-true, leb-true, ltb-true, false_from_ne_true}
use Rattle.std.specs.List.{list_any, list_all, find}
use Rattle.pm_model.specs.State.{Graph, root, classes_in}
use Rattle.pm_model.specs.Containment.{contained}
use Rattle.pm_model.specs.Decision.{classes_of, is_met, privilege, forbids}
use Rattle.pm_model.specs.RightSet.{is_access_right}
use Rattle.pm_model.specs.Authority.{is_administrative, lacking_in, forbidding_in, reason_of, denial_in}
use Rattle.pm_model.specs.declared.prohibitions.Prohibition as prohibition
use Rattle.pm_model.specs.declared.replies.Reason.{Reason}

module _ {X : Type 0} (test : X → Bool) where
  -- none is found exactly where none passes
  find-none : (xs : List X) → (find test xs ≡ None) ↔ (list_any test xs ≡ false)
  find-none [] = (λ h. refl, λ h. refl)
  find-none (x ∷ xs) = of (test x) refl (find-none xs) where
    of : (t : Bool) → test x ≡ t → ((find test xs ≡ None) ↔ (list_any test xs ≡ false)) →
        (find test (x ∷ xs) ≡ None) ↔ (list_any test (x ∷ xs) ≡ false)
    of true is rest = rw (is) (λ h. absurd (cc), λ h. absurd (cc))
    of false is rest = rw (is) rest

  -- none that fails is found exactly where all pass
  find-all : (xs : List X) → (find (λ x. not (test x)) xs ≡ None) ↔ (list_all test xs ≡ true)
  find-all [] = (λ h. refl, λ h. refl)
  find-all (x ∷ xs) = of (test x) refl (find-all xs) where
    of : (t : Bool) → test x ≡ t → ((find (λ x. not (test x)) xs ≡ None) ↔ (list_all test xs ≡ true)) →
        (find (λ x. not (test x)) (x ∷ xs) ≡ None) ↔ (list_all test (x ∷ xs) ≡ true)
    of true is rest = rw (is) rest
    of false is rest = rw (is) (λ h. absurd (cc), λ h. absurd (cc))

reason-none : (lack : Option ℕ) (bar : Option prohibition.Prohibition) → (reason_of lack bar ≡ None) ↔ ((lack ≡ None) × (bar ≡ None))
reason-none (Some pc) bar = (λ h. absurd (cc), λ h. let no = h.0 in absurd (cc))
reason-none None (Some p) = (λ h. absurd (cc), λ h. let no = h.1 in absurd (cc))
reason-none None None = (λ h. (refl, refl), λ h. refl)

module _ (G : Graph) (u : ℕ) (q : Option ℕ) (r e : ℕ) where
  -- the user has the privilege, and no prohibition applies and covers it
  abbrev IsGranted : Type 0
  IsGranted =
      (privilege (contained G.assigned) G.associations (classes_in G.elements) u r e ≡ true)
      × (list_any (forbids (contained G.assigned) u q r e) G.prohibitions ≡ false)

  abbrev IsRootAt : Type 0
  IsRootAt = (u ≡ root) × (is_administrative r ≡ true)

  no-reason : (reason_of (lacking_in G u r e) (forbidding_in G u q r e) ≡ None) ↔ IsGranted
  no-reason = (λ h. let p = reason.0 h in (met.0 p.0, free.0 p.1), λ p. reason.1 (met.1 p.0, free.1 p.1)) where
    reason : (reason_of (lacking_in G u r e) (forbidding_in G u q r e) ≡ None) ↔ ((lacking_in G u r e ≡ None) × (forbidding_in G u q r e ≡ None))
    reason = reason-none (lacking_in G u r e) (forbidding_in G u q r e)

    met : (lacking_in G u r e ≡ None) ↔ (privilege (contained G.assigned) G.associations (classes_in G.elements) u r e ≡ true)
    met = find-all (is_met (contained G.assigned) G.associations u r e) (classes_of (contained G.assigned) (classes_in G.elements) e)

    free : (forbidding_in G u q r e ≡ None) ↔ (list_any (forbids (contained G.assigned) u q r e) G.prohibitions ≡ false)
    free = find-none (forbids (contained G.assigned) u q r e) G.prohibitions

  not-root : (u == root && is_administrative r) ≡ false → IsRootAt → ⊥
  not-root other h = let is : (u == root && is_administrative r) ≡ true = and_from (u == root) (is_administrative r) (eq-eqb u root h.0) h.1 in cc

  pub allowed_exactly : (denial_in G u q r e ≡ None) ↔ (((u ≡ root) × (is_administrative r ≡ true))
      ⊎ ((privilege (contained G.assigned) G.associations (classes_in G.elements) u r e ≡ true)
      × (list_any (forbids (contained G.assigned) u q r e) G.prohibitions ≡ false)))
  allowed_exactly =
      cond_both (u == root && is_administrative r) None (reason_of (lacking_in G u r e) (forbidding_in G u q r e))
      (λ (o : Option Reason). (o ≡ None) ↔ (IsRootAt ⊎ IsGranted))
      (λ is. let p = and_parts (u == root) (is_administrative r) is in (λ h. inl (eqb-true u root p.0, p.1), λ h. refl))
      (λ other. (λ h. inr (no-reason.0 h), λ h. elim h [ inl is ↦ absurd (not-root other is) | inr is ↦ no-reason.1 is ]))

-- an access asks for no administrative right
access-other : (r : ℕ) → is_access_right r ≡ true → is_administrative r ≡ false
access-other r h = false_from_ne_true (is_administrative r) (λ is.
    let p = and_parts (nat_le 2 r) (nat_le r 16) is in
    let low = leb-true 2 r p.0 in
    let high = leb-true r 16 p.1 in
    elim (or_cases (nat_lt r 2) (nat_le 17 r) h) [
      | inl below ↦ let less = ltb-true r 2 below in omega (arith, less, low)
      | inr above ↦ let more = leb-true 17 r above in omega (arith, more, high)
    ])

pub granted_exactly : (G : Graph) (u q r e : ℕ) → is_access_right r ≡ true →
    (denial_in G u (Some q) r e ≡ None)
    ↔ ((privilege (contained G.assigned) G.associations (classes_in G.elements) u r e ≡ true)
    × (list_any (forbids (contained G.assigned) u (Some q) r e) G.prohibitions ≡ false))
granted_exactly G u q r e access = let all = allowed_exactly G u (Some q) r e in (
  λ h. elim (all.0 h) [ inl is ↦ (let no = access-other r access in let yes = is.1 in absurd (cc)) | inr is ↦ is ],
  λ h. all.1 (inr h),
)
