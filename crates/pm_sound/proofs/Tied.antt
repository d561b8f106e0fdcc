-- The rules of assignments, by the places of their ends.
use Rattle.std.proofs.Common.{zero, suc, ◌≡◌, ◌<◌, ◌≤◌, ◌||◌, ◌==◌, ◌↔◌, ℕ, true, false, not, List, [], ◌∷◌, ◌++◌, length, map, filter, get_or, Contains, codes, inl, inr, refl, sym, ap, ◌∙◌, subst, bytes_eq, arith}
use Rattle.std.specs.List.{list_any, list_all}
use Rattle.std.proofs.lemmas.Bool.{cases_Bool, and_parts, eqb-true, or_parts}
use Rattle.pm_laws.proofs.Items.{each-at, each-from}
use Rattle.pm_model.specs.Formed.{Each}
use Rattle.pm_model.specs.State.{is_class_kind}
use Rattle.pm_order.specs.Ranked.{containers, containers_of, element_in, place}
use Rattle.pm_policy.specs.Policy.{assignment, is_assigned, is_same, opening_docs, standing}
use Rattle.pm_policy.specs.Sound.{AreOnceAssigned, AreOnceCalled, AreSound, HasContainer, opening_pairs}
use Rattle.pm_policy.specs.declared.policy.DocElement.{DocElement}
use Rattle.pm_policy.specs.declared.policy.DocAssignment.{DocAssignment}
use Rattle.pm_policy.specs.declared.policy.Policy.{Policy}
use Rattle.pm_policy.proofs.Standing.{apart}
use Rattle.pm_sound.specs.Groups.{AreFew, AreTied}
use Rattle.pm_sound.specs.Tests.{has_any, is_new}

-- ---- containers

-- an element has a container exactly where it is assigned
any-assigned : (all : List DocElement) (pairs : List DocAssignment) (e : DocElement) →
    has_any e (containers_of all pairs e) ≡ (is_class_kind e.kind || list_any (is_assigned e.name) pairs)
any-assigned all pairs e = ap (λ b. is_class_kind e.kind || b) (of pairs) where
  some : (n : ℕ) → not (suc n == 0) ≡ true
  some n = elim (cases_Bool (suc n == 0)) [
    | inl is ↦ let same = eqb-true (suc n) 0 is in absurd (omega (arith, same))
    | inr other ↦ rw other refl
  ]

  of : (ps : List DocAssignment) → not (length (map (λ (p : DocAssignment). place all p.to) (filter (is_assigned e.name) ps)) == 0) ≡ list_any (is_assigned e.name) ps
  of [] = refl
  of (p ∷ ps) = elim (cases_Bool (is_assigned e.name p)) [
    | inl is ↦ rw is (some (length (map (λ (q : DocAssignment). place all q.to) (filter (is_assigned e.name) ps))))
    | inr other ↦ rw other (of ps)
  ]

-- the rule holds of the elements at these places
abbrev HaveAny : List DocElement → List DocElement → List DocAssignment → ℕ → Type 0
HaveAny all ds pairs i = has_any (element_in ds i) (get_or (map (containers_of all pairs) ds) i []) ≡ true

each-contained : (all : List DocElement) (pairs : List DocAssignment) (ds : List DocElement) → ((i : ℕ) → i < length ds → HaveAny all ds pairs i) → Each (HasContainer pairs) ds
each-contained all pairs [] h = tt
each-contained all pairs (d ∷ ds) h =
    (sym (any-assigned all pairs d) ∙ h 0 (omega arith), each-contained all pairs ds (λ i below. h (suc i) (omega (arith, below))))

contained-at : (all : List DocElement) (pairs : List DocAssignment) (ds : List DocElement) → Each (HasContainer pairs) ds → (i : ℕ) → i < length ds → HaveAny all ds pairs i
contained-at all pairs [] h i below = absurd (omega (arith, below))
contained-at all pairs (d ∷ ds) h zero below = any-assigned all pairs d ∙ h.0
contained-at all pairs (d ∷ ds) h (suc i) below = contained-at all pairs ds h.1 i (omega (arith, below))

-- of the first n elements, each has one of these containers
abbrev pub HaveAnyTo : ℕ → List DocElement → List (List ℕ) → Type 0
HaveAnyTo n es above = (i : ℕ) → i < n → has_any (element_in es i) (get_or above i []) ≡ true

pub all-contained : (n : ℕ) (es : List DocElement) (above : List (List ℕ)) (pairs : List DocAssignment) → length es ≤ n → above ≡ containers es pairs →
    HaveAnyTo n es above → Each (HasContainer pairs) es
all-contained n es above pairs all same h =
    each-contained es pairs es (λ i below. subst (λ l. has_any (element_in es i) (get_or l i []) ≡ true) same (h i (omega (arith, below, all))))

pub not-contained : (i : ℕ) (es : List DocElement) (above : List (List ℕ)) (pairs : List DocAssignment) → i < length es → above ≡ containers es pairs →
    has_any (element_in es i) (get_or above i []) ≡ false → Each (HasContainer pairs) es → ⊥
not-contained i es above pairs below same none h =
    let yes = contained-at es pairs es h i below in
    let also : has_any (element_in es i) (get_or (containers es pairs) i []) ≡ false = subst (λ l. has_any (element_in es i) (get_or l i []) ≡ false) same none in cc

-- ---- the opening

-- no assignment of the opening is one of an element of the document
own : (es : List DocElement) (pairs : List DocAssignment) → AreOnceCalled (standing es) → (e : DocElement) → Contains es e →
    list_any (is_assigned e.name) (opening_pairs ++ pairs) ≡ list_any (is_assigned e.name) pairs
own es pairs once e c =
    let none = apart opening_docs es e once c in
    let class = or_parts (bytes_eq e.name (codes "pm")) (bytes_eq e.name (codes "pm_admins") || (bytes_eq e.name (codes "root") || false)) none in
    let admins = or_parts (bytes_eq e.name (codes "pm_admins")) (bytes_eq e.name (codes "root") || false) class.1 in
    let root = or_parts (bytes_eq e.name (codes "root")) false admins.1 in
    rw (admins.0, root.0) refl

contained-own : (es : List DocElement) (pairs : List DocAssignment) → AreOnceCalled (standing es) → Each (HasContainer (opening_pairs ++ pairs)) (standing es) ↔ Each (HasContainer pairs) es
contained-own es pairs once = (to, from) where
  to : Each (HasContainer (opening_pairs ++ pairs)) (standing es) → Each (HasContainer pairs) es
  to h = each-from (HasContainer pairs) es (λ e c. ap (λ b. is_class_kind e.kind || b) (sym (own es pairs once e c)) ∙ each-at (HasContainer (opening_pairs ++ pairs)) es e h.1.1.1 c)

  from : Each (HasContainer pairs) es → Each (HasContainer (opening_pairs ++ pairs)) (standing es)
  from h = (
    refl,
    (
      refl,
      (
        refl,
        each-from (HasContainer (opening_pairs ++ pairs)) es
            (λ e c. ap (λ b. is_class_kind e.kind || b) (own es pairs once e c) ∙ each-at (HasContainer pairs) es e h c),
      ),
    ),
  )

pub tied-sound : (D : Policy) → AreSound D.elements D.assignments → AreTied (standing D.elements) (opening_pairs ++ D.assignments)
tied-sound D s = record {
  kinds = (refl, (refl, s.kinds));
  contained = (contained-own D.elements D.assignments s.once).1 s.contained;
  acyclic = s.acyclic;
}

pub sound-tied : (D : Policy) → AreFew D → AreOnceCalled (standing D.elements) → AreOnceAssigned (opening_pairs ++ D.assignments) →
    AreTied (standing D.elements) (opening_pairs ++ D.assignments) → AreSound D.elements D.assignments
sound-tied D few once assigned tied = record {
  once = once;
  assigned_once = assigned;
  kinds = tied.kinds.1.1;
  acyclic = tied.acyclic;
  contained = (contained-own D.elements D.assignments once).0 tied.contained;
  few = few.elements;
  few_assigned = few.assignments;
}

-- ---- none stands twice

pub new-once : (pairs : List DocAssignment) → list_all is_new pairs ≡ true → AreOnceAssigned pairs → AreOnceAssigned (opening_pairs ++ pairs)
new-once pairs new once = (class pairs new, (root pairs new, once)) where
  class : (ps : List DocAssignment) → list_all is_new ps ≡ true → list_any (is_same (assignment (codes "pm_admins") (codes "pm"))) ps ≡ false
  class [] h = refl
  class (p ∷ ps) h =
      let both = and_parts (is_new p) (list_all is_new ps) h in
      let first = and_parts (not (is_same (assignment (codes "pm_admins") (codes "pm")) p)) (not (is_same (assignment (codes "root") (codes "pm_admins")) p)) both.0 in
      let rest = class ps both.1 in
      elim (cases_Bool (is_same (assignment (codes "pm_admins") (codes "pm")) p)) [
        | inl is ↦ absurd (let no = rw is at first.0 in cc)
        | inr other ↦ rw (other, rest) refl
      ]

  root : (ps : List DocAssignment) → list_all is_new ps ≡ true → list_any (is_same (assignment (codes "root") (codes "pm_admins"))) ps ≡ false
  root [] h = refl
  root (p ∷ ps) h =
      let both = and_parts (is_new p) (list_all is_new ps) h in
      let second = and_parts (not (is_same (assignment (codes "pm_admins") (codes "pm")) p)) (not (is_same (assignment (codes "root") (codes "pm_admins")) p)) both.0 in
      let rest = root ps both.1 in
      elim (cases_Bool (is_same (assignment (codes "root") (codes "pm_admins")) p)) [
        | inl is ↦ absurd (let no = rw is at second.1 in cc)
        | inr other ↦ rw (other, rest) refl
      ]

pub once-new : (pairs : List DocAssignment) → AreOnceAssigned (opening_pairs ++ pairs) → list_all is_new pairs ≡ true
once-new pairs h = of pairs h.0 h.1.0 where
  of : (ps : List DocAssignment) → list_any (is_same (assignment (codes "pm_admins") (codes "pm"))) ps ≡ false →
      list_any (is_same (assignment (codes "root") (codes "pm_admins"))) ps ≡ false → list_all is_new ps ≡ true
  of [] h k = refl
  of (p ∷ ps) h k =
      let class = or_parts (is_same (assignment (codes "pm_admins") (codes "pm")) p) (list_any (is_same (assignment (codes "pm_admins") (codes "pm"))) ps) h in
      let root = or_parts (is_same (assignment (codes "root") (codes "pm_admins")) p) (list_any (is_same (assignment (codes "root") (codes "pm_admins"))) ps) k in
      let rest = of ps class.1 root.1 in rw (class.0, root.0, rest) refl
