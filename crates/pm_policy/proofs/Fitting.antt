-- What is ready can be made; and the assignments with which elements are made.
use Rattle.std.proofs.Common.{◌≡◌, ℕ, Bool, true, false, List, [], ◌∷◌, ◌++◌, length, filter, Option, Some, None, Contains, ◌⊎◌, inl, inr, refl, sym, ◌∙◌, ap, subst, arith, append_assoc}
use Rattle.std.specs.List.{list_any}
use Rattle.std.proofs.lemmas.List.Elements.{Contains-push_cases}
use Rattle.std.proofs.lemmas.Bool.{or_cases}
use Rattle.pm_model.specs.State.{is_class_kind}
use Rattle.pm_model.specs.declared.elements.Kind.{Kind}
use Rattle.pm_model.specs.declared.elements.Kind.TheVariants.{User, Ua, Object, Oa, Pc}
use Rattle.pm_laws.proofs.Items.{contains-first, contains-rest, contains-cases, contains-none, contains-filter, find-found}
use Rattle.pm_laws.proofs.Added.{added-has, has-added}
use Rattle.pm_policy.specs.Policy.{is_assigned, called}
use Rattle.pm_policy.specs.Order.{is_made, is_ready}
use Rattle.pm_policy.specs.Requests.{first_assignment}
use Rattle.pm_policy.specs.Sound.{both, AreOnceCalled, FitAssigned, HasContainer}
use Rattle.pm_policy.specs.declared.policy.DocElement.{DocElement}
use Rattle.pm_policy.specs.declared.policy.DocAssignment.{DocAssignment}
use Rattle.pm_policy.proofs.Places.{place, place-more, place-new, called-name, called-made, made-called}
use Rattle.pm_policy.proofs.Created.{IsMadeIn, AreMakeable, with_first, assigned_after}
use Rattle.pm_policy.proofs.Ordered.{AreReady, all-at, find-none, same-name, name-itself, called-once}

-- both ends stand
pub both-called : (fits : Kind → Kind → Bool) (a c : Option DocElement) → both fits a c ≡ true →
    (d : DocElement) × (e : DocElement) × (a ≡ Some d) × (c ≡ Some e) × (fits d.kind e.kind ≡ true)
both-called fits (Some d) (Some e) h = (d, e, refl, refl, h)
both-called fits (Some d) None h = absurd (cc)
both-called fits None c h = absurd (cc)

class-kind : (k : Kind) → is_class_kind k ≡ true → k ≡ Pc
class-kind Pc h = refl
class-kind User h = absurd (cc)
class-kind Ua h = absurd (cc)
class-kind Object h = absurd (cc)
class-kind Oa h = absurd (cc)

module _ (pairs : List DocAssignment) (all : List DocElement) (once : AreOnceCalled all) (fit : (p : DocAssignment) → Contains pairs p → FitAssigned all p) where
  in-container : (made : List DocElement) (e : DocElement) (o : Option DocAssignment) → first_assignment pairs e.name ≡ o →
      ((d : DocElement) → Contains made d → Contains all d) → Contains all e → HasContainer pairs e → is_ready pairs made e ≡ true → IsMadeIn pairs made e o
  in-container made e None is within there has ready = elim (or_cases (is_class_kind e.kind) (list_any (is_assigned e.name) pairs) has) [
    | inl class ↦ class-kind e.kind class
    | inr some ↦ absurd (let none = find-none (is_assigned e.name) pairs is in cc)
  ]
  in-container made e (Some p) is within there has ready =
      let q = find-found (is_assigned e.name) pairs p is in
      let done = all-at (λ (p : DocAssignment). is_made made p.to) (filter (is_assigned e.name) pairs) p ready (contains-filter (is_assigned e.name) pairs p q.0 q.1) in
      let c = made-called made p.to done in
      let n = called-name made p.to c.0 c.1 in
      let from : e.name ≡ p.from = same-name e.name p.from q.1 in
      let first : called all p.from ≡ Some e = subst (λ n. called all n ≡ Some e) from (called-once all e once there) in
      let second : called all p.to ≡ Some c.0 = subst (λ n. called all n ≡ Some c.0) (sym n.1) (called-once all c.0 once (within c.0 n.0)) in
      (c.0, c.1, rw (first, second) at (fit p q.0))

  pub makeable : (made es : List DocElement) → ((d : DocElement) → Contains made d → Contains all d) → ((d : DocElement) → Contains es d → Contains all d) →
      ((d : DocElement) → Contains es d → HasContainer pairs d) → AreReady pairs made es → AreMakeable pairs made es
  makeable made [] within sub has ready = tt
  makeable made (e ∷ es) within sub has ready = (
    ready.0,
    in-container made e (first_assignment pairs e.name) refl within (sub e (contains-first e es)) (has e (contains-first e es)) ready.1,
    makeable (made ++ e ∷ []) es (λ d c. elim (Contains-push_cases made e d c) [ inl old ↦ within d old | inr new ↦ subst (λ x. Contains all x) new (sub e (contains-first e es)) ])
        (λ d c. sub d (contains-rest e d es c)) (λ d c. has d (contains-rest e d es c)) ready.2,
  )

-- ---- the assignments of those that are made

-- an assignment by numbers
abbrev pub num : List DocElement → DocAssignment → ℕ × ℕ
num all p = (place all p.from, place all p.to)

module _ (pairs : List DocAssignment) where
  -- the element's first assignment, as it is made, is this one
  first-num : (made es : List DocElement) (e : DocElement) (p : DocAssignment) → is_made made e.name ≡ false →
      first_assignment pairs e.name ≡ Some p → IsMadeIn pairs made e (Some p) → num (made ++ e ∷ es) p ≡ (length made, place made p.to)
  first-num made es e p new is fits =
      let q = find-found (is_assigned e.name) pairs p is in
      let from : e.name ≡ p.from = same-name e.name p.from q.1 in
      let mine : place (made ++ e ∷ es) p.from ≡ length made =
      ap (λ n. place (made ++ e ∷ es) n) (sym from) ∙ place-new 0 made es e e.name new (name-itself e.name) ∙ omega arith in
      let its : place (made ++ e ∷ es) p.to ≡ place made p.to = place-more 0 made (e ∷ es) p.to (called-made made p.to fits.0 fits.1) in
      rw (mine, its) refl

  -- it is made with the element
  abbrev pub IsFirst : List DocElement → List DocElement → (ℕ × ℕ) → Type 0
  IsFirst all es r = (e : DocElement) × (p : DocAssignment) × Contains es e × (first_assignment pairs e.name ≡ Some p) × (r ≡ num all p)

  with-first-cases : (made es : List DocElement) (e : DocElement) (o : Option DocAssignment) (assigned : List (ℕ × ℕ)) (r : ℕ × ℕ) →
      is_made made e.name ≡ false → first_assignment pairs e.name ≡ o → IsMadeIn pairs made e o → Contains (with_first pairs made o assigned) r →
      Contains assigned r ⊎ ((p : DocAssignment) × (first_assignment pairs e.name ≡ Some p) × (r ≡ num (made ++ e ∷ es) p))
  with-first-cases made es e None assigned r new is fits c = inl c
  with-first-cases made es e (Some p) assigned r new is fits c =
      elim (contains-cases (length made, place made p.to) r assigned (has-added (length made, place made p.to) assigned r c)) [
        | inl same ↦ inr (p, is, sym same ∙ sym (first-num made es e p new is fits))
        | inr old ↦ inl old
      ]

  pub after-cases : (made : List DocElement) (assigned : List (ℕ × ℕ)) (es : List DocElement) (r : ℕ × ℕ) → AreMakeable pairs made es →
      Contains (assigned_after pairs made assigned es) r → Contains assigned r ⊎ IsFirst (made ++ es) es r
  after-cases made assigned [] r h c = inl c
  after-cases made assigned (e ∷ es) r h c =
      elim (after-cases (made ++ e ∷ []) (with_first pairs made (first_assignment pairs e.name) assigned) es r h.2 c) [
        | inl here ↦ elim (with-first-cases made es e (first_assignment pairs e.name) assigned r h.0 refl h.1 here) [
          | inl old ↦ inl old
          | inr new ↦ inr (e, new.0, contains-first e es, new.1, new.2)
        ]
        | inr later ↦ inr (
          later.0,
          later.1,
          contains-rest e later.0 es later.2,
          later.3,
          later.4 ∙ ap (λ l. num l later.1) (append_assoc made (e ∷ []) es),
        )
      ]

  with-first-old : (made : List DocElement) (o : Option DocAssignment) (assigned : List (ℕ × ℕ)) (r : ℕ × ℕ) → Contains assigned r →
      Contains (with_first pairs made o assigned) r
  with-first-old made None assigned r c = c
  with-first-old made (Some p) assigned r c =
      added-has (length made, place made p.to) assigned r (contains-rest (length made, place made p.to) r assigned c)

  pub after-old : (made : List DocElement) (assigned : List (ℕ × ℕ)) (es : List DocElement) (r : ℕ × ℕ) → Contains assigned r →
      Contains (assigned_after pairs made assigned es) r
  after-old made assigned [] r c = c
  after-old made assigned (e ∷ es) r c =
      after-old (made ++ e ∷ []) (with_first pairs made (first_assignment pairs e.name) assigned) es r
      (with-first-old made (first_assignment pairs e.name) assigned r c)

  with-first-new : (made es : List DocElement) (e : DocElement) (o : Option DocAssignment) (p : DocAssignment) (assigned : List (ℕ × ℕ)) →
      is_made made e.name ≡ false → first_assignment pairs e.name ≡ o → o ≡ Some p → IsMadeIn pairs made e o →
      Contains (with_first pairs made o assigned) (num (made ++ e ∷ es) p)
  with-first-new made es e None p assigned new is some fits = absurd (cc)
  with-first-new made es e (Some q) p assigned new is some fits =
      let same : q ≡ p = cc in
      let at = first-num made es e q new is fits in
      subst (λ (x : DocAssignment). Contains (with_first pairs made (Some q) assigned) (num (made ++ e ∷ es) x)) same
      (subst (λ (r : ℕ × ℕ). Contains (with_first pairs made (Some q) assigned) r) (sym at)
      (added-has (length made, place made q.to) assigned (length made, place made q.to) (contains-first (length made, place made q.to) assigned)))

  pub after-new : (made : List DocElement) (assigned : List (ℕ × ℕ)) (es : List DocElement) (e : DocElement) (p : DocAssignment) → AreMakeable pairs made es →
      Contains es e → first_assignment pairs e.name ≡ Some p → Contains (assigned_after pairs made assigned es) (num (made ++ es) p)
  after-new made assigned [] e p h c is = contains-none e c
  after-new made assigned (d ∷ es) e p h c is = elim (contains-cases d e es c) [
    | inl same ↦ after-old (made ++ d ∷ []) (with_first pairs made (first_assignment pairs d.name) assigned) es (num (made ++ d ∷ es) p)
        (with-first-new made es d (first_assignment pairs d.name) p assigned h.0 refl (subst (λ (x : DocElement). first_assignment pairs x.name ≡ Some p) (sym same) is) h.1)
    | inr below ↦
        subst (λ (l : List DocElement). Contains (assigned_after pairs made assigned (d ∷ es)) (num l p)) (append_assoc made (d ∷ []) es)
        (after-new (made ++ d ∷ []) (with_first pairs made (first_assignment pairs d.name) assigned) es e p h.2 below is)
  ]
