-- A sound document's elements and assignments are made one after another, and are all that the policy has.
use Rattle.std.proofs.Common.{◌≡◌, ◌≤◌, ◌+◌, ◌&&◌, ◌==◌, ℕ, true, false, not, List, [], ◌∷◌, ◌++◌, length, filter, map, Option, Some, None, Contains, inl, inr, refl, sym, ◌∙◌, ap, subst, arith, bytes_eq}
use Rattle.std.specs.List.{list_any}
use Rattle.std.proofs.lemmas.Bool.{or_cases, or_right, le-ltb, and_parts, and_from, cases_Bool, not-true, false_from_ne_true, eqb-true}
use Rattle.std.proofs.lemmas.Slice.Eq.{bytes_eq-Decides}
use Rattle.pm_model.specs.State.{opening_assigned, name_numbered, is_class_kind}
use Rattle.pm_model.specs.Effect.{may_assign, is_builtin, is_builtin_element, max_elements, max_assignments}
use Rattle.pm_model.specs.declared.prohibitions.Prohibition.{Prohibition}
use Rattle.pm_model.specs.declared.rights.Association.{Association}
use Rattle.pm_model.specs.declared.elements.Element.{Element}
use Rattle.pm_laws.proofs.Names.{other-swapped}
use Rattle.pm_laws.proofs.Items.{contains-first, contains-rest, contains-cases, contains-none, contains-filter, filter-contains, none-at, any-from, any-found, each-at, find-found}
use Rattle.std.proofs.lemmas.List.Elements.{Contains-append_cases, Contains-append_right, Contains-append_left}
use Rattle.pm_policy.specs.Policy.{assignment, is_assigned, is_called, is_same, called, opening_docs, standing}
use Rattle.pm_policy.specs.Order.{sorted, stands_before, leads_before, is_made, order}
use Rattle.pm_policy.specs.Requests.{create, assign, others, is_first, is_first_of, first_assignment}
use Rattle.pm_policy.specs.PolicyOf.{AreSame, policy_elements, policy_assignments, doc_of}
use Rattle.pm_policy.specs.Sound.{AreSound, AreOnceCalled, AreOnceAssigned, FitAssigned, HasContainer, IsAcyclic, LeadsOn, opening_pairs}
use Rattle.pm_policy.specs.declared.policy.DocElement.{DocElement}
use Rattle.pm_policy.specs.declared.policy.DocAssignment.{DocAssignment}
use Rattle.pm_policy.proofs.Steps.{Steps, steps-append}
use Rattle.pm_policy.proofs.Places.{counted, place, element-made, called-name, called-made, made-called}
use Rattle.pm_policy.proofs.Created.{shaped, creates, assigned_after, AreMakeable}
use Rattle.pm_policy.proofs.Ordered.{AreReady, AreLeft, ordered-whole, ordered-within, ordered-ready, same-name, name-itself, contains-map, map-contains}
use Rattle.pm_policy.proofs.Fitting.{num, makeable, both-called, after-cases, after-new}
use Rattle.pm_policy.proofs.Assigning.{AreOf, assigns, assign_all, all-cases, all-old, all-new, num-apart}
use Rattle.pm_policy.proofs.Sorted.{sorted-has, has-sorted, length-sorted, once-sorted, once-kept, length-parted}
use Rattle.pm_policy.proofs.Counting.{after-counted, firsts-few, first-is}
use Rattle.pm_policy.proofs.Standing.{made-append, made-within, ready-once, fit-same, append-within, ordered-few, apart}

leads-within : (ps qs : List DocAssignment) → ((p : DocAssignment) → Contains ps p → Contains qs p) → (x : List ℕ) (path : List (List ℕ)) (y : List ℕ) →
    LeadsOn ps x path y → LeadsOn qs x path y
leads-within ps qs sub x [] y h = h
leads-within ps qs sub x (z ∷ path) y h = (sub (assignment x z) h.0, leads-within ps qs sub z path y h.1)

acyclic-within : (ps qs : List DocAssignment) → ((p : DocAssignment) → Contains ps p → Contains qs p) → IsAcyclic qs → IsAcyclic ps
acyclic-within ps qs sub h x z path round = h x z path (leads-within ps qs sub x (z ∷ path) x round)

same-swapped : (p q : DocAssignment) → is_same p q ≡ false → is_same q p ≡ false
same-swapped p q h = false_from_ne_true (is_same q p) (λ is.
    let b = and_parts (bytes_eq q.from p.from) (bytes_eq q.to p.to) is in
    let from : bytes_eq p.from q.from ≡ true = (bytes_eq-Decides p.from q.from).1 (sym (same-name q.from p.from b.0)) in
    let to : bytes_eq p.to q.to ≡ true = (bytes_eq-Decides p.to q.to).1 (sym (same-name q.to p.to b.1)) in
    let yes : is_same p q ≡ true = and_from (bytes_eq p.from q.from) (bytes_eq p.to q.to) from to in cc)

same-itself : (p : DocAssignment) → is_same p p ≡ true
same-itself p = and_from (bytes_eq p.from p.from) (bytes_eq p.to p.to) (name-itself p.from) (name-itself p.to)

called-swapped : (a b : DocElement) → is_called a.name b ≡ false → is_called b.name a ≡ false
called-swapped a b h = other-swapped a.name b.name h

-- of two lists in which nothing stands twice no item is in both
once-apart : (ps qs : List DocAssignment) (q : DocAssignment) → AreOnceAssigned (ps ++ qs) → Contains ps q → Contains qs q → ⊥
once-apart [] qs q once c d = contains-none q c
once-apart (p ∷ ps) qs q once c d = elim (contains-cases p q ps c) [
  | inl same ↦
      let no : is_same p q ≡ false = none-at (is_same p) (ps ++ qs) q once.0 (Contains-append_right ps qs q d) in
      let yes : is_same p q ≡ true = subst (λ x. is_same p x ≡ true) same (same-itself p) in absurd (cc)
  | inr below ↦ once-apart ps qs q once.1 below d
]

once-behind : (ps qs : List DocAssignment) → AreOnceAssigned (ps ++ qs) → AreOnceAssigned qs
once-behind [] qs once = once
once-behind (p ∷ ps) qs once = once-behind ps qs once.1

calls-behind : (xs ys : List DocElement) → AreOnceCalled (xs ++ ys) → AreOnceCalled ys
calls-behind [] ys once = once
calls-behind (x ∷ xs) ys once = calls-behind xs ys once.1

module _ (es : List DocElement) (given : List DocAssignment) (sound : AreSound es given) where
  abbrev pub pairs : List DocAssignment
  pairs = sorted leads_before given

  abbrev pub os : List DocElement
  os = order pairs es

  abbrev pub all : List DocElement
  all = opening_docs ++ os

  srt : List DocElement
  srt = sorted stands_before es

  is-given : (p : DocAssignment) → Contains pairs p → Contains given p
  is-given p c = has-sorted leads_before given p c

  once-srt : AreOnceCalled (sorted stands_before es)
  once-srt = once-sorted stands_before (λ (d : DocElement). is_called d.name) called-swapped es (calls-behind opening_docs es sound.once)

  acyclic : IsAcyclic pairs
  acyclic = acyclic-within pairs (opening_pairs ++ given) (λ p c. Contains-append_right opening_pairs given p (is-given p c)) sound.acyclic

  left : AreLeft pairs opening_docs (sorted stands_before es)
  left = record {
    once = once-srt;
    closed = λ e p c cp from.
        let b = both-called may_assign (called (standing es) p.from) (called (standing es) p.to) (each-at (FitAssigned (standing es)) given p sound.kinds (is-given p cp)) in
        elim (made-append opening_docs es p.to (called-made (standing es) p.to b.1 b.3)) [
          | inl here ↦ inl here
          | inr there ↦ inr (made-within es (sorted stands_before es) p.to (λ e c. sorted-has stands_before es e c) there)
        ];
  }

  -- the order has the document's elements
  pub os-has : (e : DocElement) → Contains es e → Contains os e
  os-has e c =
      let l = length-sorted stands_before es in
      ordered-whole pairs (length es) opening_docs (sorted stands_before es) acyclic left (omega (arith, l)) e (sorted-has stands_before es e c)

  has-os : (e : DocElement) → Contains os e → Contains es e
  has-os e c = has-sorted stands_before es e (ordered-within pairs (length es) opening_docs (sorted stands_before es) e c)

  ready : AreReady pairs opening_docs os
  ready = ordered-ready pairs (length es) opening_docs (sorted stands_before es)
      (λ d c. apart opening_docs es d sound.once (has-sorted stands_before es d c))

  pub once-all : AreOnceCalled all
  once-all = ready-once pairs opening_docs os (refl, (refl, (refl, tt))) ready

  pub fit : (p : DocAssignment) → Contains pairs p → FitAssigned all p
  fit p c =
      fit-same (standing es) all p (append-within opening_docs es os os-has) once-all
      (each-at (FitAssigned (standing es)) given p sound.kinds (is-given p c))

  has : (e : DocElement) → Contains os e → HasContainer pairs e
  has e c = contained-in (each-at (HasContainer given) es e sound.contained (has-os e c)) where
    contained-in : HasContainer given e → HasContainer pairs e
    contained-in h = elim (or_cases (is_class_kind e.kind) (list_any (is_assigned e.name) given) h) [
      | inl class ↦ rw class refl
      | inr some ↦
          let p = any-found (is_assigned e.name) given some in
          or_right (is_class_kind e.kind) (list_any (is_assigned e.name) pairs)
          (any-from (is_assigned e.name) pairs p.0 (sorted-has leads_before given p.0 p.1) p.2)
    ]

  can : AreMakeable pairs opening_docs os
  can = makeable pairs all once-all fit opening_docs os (λ d c. Contains-append_left opening_docs os d c) (λ d c. Contains-append_right opening_docs os d c) has ready

  -- ---- rooms

  abbrev pub first_assigned : List (ℕ × ℕ)
  first_assigned = assigned_after pairs opening_docs opening_assigned os

  abbrev pub rest : List DocAssignment
  rest = others es pairs

  few-made : length opening_docs + length os ≤ max_elements
  few-made =
      let l = ordered-few pairs (length es) opening_docs (sorted stands_before es) in
      let f = sound.few in omega (arith, l, f)

  few-assigned : length first_assigned + length rest ≤ max_assignments
  few-assigned =
      let counted = after-counted pairs opening_docs opening_assigned os in
      let firsts = firsts-few pairs es os (calls-behind opening_docs os once-all) has-os in
      let parted = length-parted (is_first es pairs) pairs in
      let l = length-sorted leads_before given in
      let f = sound.few_assigned in
      omega (arith, counted, firsts, parted, l, f)

  few-first : length first_assigned ≤ max_assignments
  few-first = let f = few-assigned in omega (arith, f)

  -- ---- the other assignments

  abbrev known : List DocAssignment
  known = opening_pairs ++ pairs

  named : (q : DocAssignment) → Contains known q → (is_made all q.from ≡ true) × (is_made all q.to ≡ true)
  named q c = elim (Contains-append_cases opening_pairs pairs q c) [
    | inl old ↦ of-opening q old
    | inr new ↦
        let b = both-called may_assign (called all q.from) (called all q.to) (fit q new) in
        (called-made all q.from b.0 b.2, called-made all q.to b.1 b.3)
  ] where
    of-opening : (q : DocAssignment) → Contains opening_pairs q → (is_made all q.from ≡ true) × (is_made all q.to ≡ true)
    of-opening q c = each-at (λ (q : DocAssignment). (is_made all q.from ≡ true) × (is_made all q.to ≡ true)) opening_pairs q ((refl, refl), ((refl, refl), tt)) c

  -- the opening's by numbers
  opening-num : map (num all) opening_pairs ≡ opening_assigned
  opening-num = refl

  first-known : AreOf all known first_assigned
  first-known r c = elim (after-cases pairs opening_docs opening_assigned os r can c) [
    | inl old ↦
        let o = map-contains (num all) opening_pairs r (subst (λ l. Contains l r) (sym opening-num) old) in
        (o.0, Contains-append_left opening_pairs pairs o.0 o.1, sym o.2)
    | inr new ↦ (new.1, Contains-append_right opening_pairs pairs new.1 (find-found (is_assigned new.0.name) pairs new.1 new.3).0, new.4)
  ]

  -- a given assignment is none of the opening's
  apart-opening : (p : DocAssignment) → Contains opening_pairs p → Contains pairs p → ⊥
  apart-opening p c d = once-apart opening_pairs given p sound.assigned_once c (is-given p d)

  is-rest : (p : DocAssignment) → Contains rest p → Contains pairs p × (is_first es pairs p ≡ false)
  is-rest p c = let q = filter-contains (λ p. not (is_first es pairs p)) pairs p c in (q.0, not-true (is_first es pairs p) q.1)

  new : (p : DocAssignment) → Contains rest p → Contains first_assigned (num all p) → ⊥
  new p c there = elim (after-cases pairs opening_docs opening_assigned os (num all p) can there) [
    | inl old ↦
        let o = map-contains (num all) opening_pairs (num all p) (subst (λ l. Contains l (num all p)) (sym opening-num) old) in
        let on = named o.0 (Contains-append_left opening_pairs pairs o.0 o.1) in
        let same : o.0 ≡ p = num-apart all o.0 p on.0 on.1 pn.0 pn.1 o.2 in
        apart-opening p (subst (λ x. Contains opening_pairs x) same o.1) q.0
    | inr first ↦
        let f = find-found (is_assigned first.0.name) pairs first.1 first.3 in
        let fn = named first.1 (Contains-append_right opening_pairs pairs first.1 f.0) in
        let same : p ≡ first.1 = num-apart all p first.1 pn.0 pn.1 fn.0 fn.1 first.4 in
        let yes = (first-is pairs es first.0 first.1 (has-os first.0 first.2) first.3).0 in
        let is = (filter-contains (is_first es pairs) pairs first.1 yes).1 in
        let no : is_first es pairs first.1 ≡ false = subst (λ x. is_first es pairs x ≡ false) same q.1 in
        cc
  ] where
    q : Contains pairs p × (is_first es pairs p ≡ false)
    q = is-rest p c

    pn : (is_made all p.from ≡ true) × (is_made all p.to ≡ true)
    pn = named p (Contains-append_right opening_pairs pairs p q.0)

  once-rest : AreOnceAssigned rest
  once-rest =
      once-kept is_same (λ p. not (is_first es pairs p)) pairs
      (once-sorted leads_before is_same same-swapped given (once-behind opening_pairs given sound.assigned_once))

  acyclic-known : IsAcyclic known
  acyclic-known = acyclic-within known (opening_pairs ++ given) (λ p c. elim (Contains-append_cases opening_pairs pairs p c) [
    | inl old ↦ Contains-append_left opening_pairs given p old
    | inr more ↦ Contains-append_right opening_pairs given p (is-given p more)
  ]) sound.acyclic

  module _ (rights : List (List ℕ)) (associations : List Association) (prohibitions : List Prohibition) where
    abbrev pub all_assigned : List (ℕ × ℕ)
    all_assigned = assign_all all first_assigned rest

    -- all are made
    pub elements-made : Steps (shaped rights associations prohibitions opening_docs opening_assigned) (map (create pairs) os ++ map assign rest)
        (shaped rights associations prohibitions all all_assigned)
    elements-made =
        steps-append _ (shaped rights associations prohibitions all first_assigned) _ (map (create pairs) os) (map assign rest)
        (creates pairs rights associations prohibitions opening_docs opening_assigned os can few-made few-first)
        (assigns all known named rights associations prohibitions first_assigned rest once-rest (λ p c. fit p (is-rest p c).0)
        (λ p c. Contains-append_right opening_pairs pairs p (is-rest p c).0) first-known acyclic-known new few-assigned)

    -- ---- the policy

    assigned-known : (r : ℕ × ℕ) → Contains all_assigned r → (q : DocAssignment) × Contains known q × (r ≡ num all q)
    assigned-known r c = elim (all-cases all first_assigned rest r c) [
      | inl before ↦ first-known r before
      | inr later ↦ (later.0, Contains-append_right opening_pairs pairs later.0 (is-rest later.0 later.1).0, later.2)
    ]

    -- a first assignment is that of an element
    first-of : (p : DocAssignment) → Contains pairs p → is_first es pairs p ≡ true → Contains first_assigned (num all p)
    first-of p c is =
        let b = and_parts (is_made es p.from) (is_first_of p (first_assignment pairs p.from)) is in
        let e = made-called es p.from b.0 in
        let n = called-name es p.from e.0 e.1 in
        let f = at-first (first_assignment pairs p.from) b.1 in
        after-new pairs opening_docs opening_assigned os e.0 p can (os-has e.0 n.0) (subst (λ m. first_assignment pairs m ≡ Some p) n.1 f) where
          at-first : (o : Option DocAssignment) → is_first_of p o ≡ true → o ≡ Some p
          at-first None h = absurd (cc)
          at-first (Some q) h =
              let b = and_parts (bytes_eq p.from q.from) (bytes_eq p.to q.to) h in
              rw (same-name p.from q.from b.0, same-name p.to q.to b.1) refl

    pairs-assigned : (p : DocAssignment) → Contains pairs p → Contains all_assigned (num all p)
    pairs-assigned p c = elim (cases_Bool (is_first es pairs p)) [
      | inl first ↦ all-old all first_assigned rest (num all p) (first-of p c first)
      | inr other ↦ all-new all first_assigned rest p
          (contains-filter (λ p. not (is_first es pairs p)) pairs p c (rw other refl))
    ]

    -- a name by its number
    pub name-of : (name : List ℕ) → is_made all name ≡ true → name_numbered (counted 0 all) (place all name) ≡ name
    name-of name h =
        let c = made-called all name h in
        rw (element-made 0 all name c.0 c.1) (sym (called-name all name c.0 c.1).1)

    back : (p : DocAssignment) → Contains known p →
        assignment (name_numbered (counted 0 all) (place all p.from)) (name_numbered (counted 0 all) (place all p.to)) ≡ p
    back p c = let n = named p c in rw (name-of p.from n.0, name-of p.to n.1) refl

    builtin-is : (x y : ℕ) → is_builtin x y ≡ true → Contains opening_assigned (x, y)
    builtin-is x y h = elim (or_cases (x == 1 && y == 0) (x == 2 && y == 1) h) [
      | inl a ↦ let b = and_parts (x == 1) (y == 0) a in rw (eqb-true x 1 b.0, eqb-true y 0 b.1) (contains-first (1, 0) ((2, 1) ∷ []))
      | inr a ↦ let b = and_parts (x == 2) (y == 1) a in rw (eqb-true x 2 b.0, eqb-true y 1 b.1) (contains-rest (1, 0) (2, 1) ((2, 1) ∷ []) (contains-first (2, 1) []))
    ]

    pub assignments-same : AreSame (policy_assignments (shaped rights associations prohibitions all all_assigned)) given
    assignments-same p = (to, from) where
      to : Contains (policy_assignments (shaped rights associations prohibitions all all_assigned)) p → Contains given p
      to c =
          let m = map-contains (λ (r : ℕ × ℕ). assignment (name_numbered (counted 0 all) r.0) (name_numbered (counted 0 all) r.1))
          (filter (λ (r : ℕ × ℕ). not (is_builtin r.0 r.1)) all_assigned) p c in
          let f = filter-contains (λ (r : ℕ × ℕ). not (is_builtin r.0 r.1)) all_assigned m.0 m.1 in
          let k = assigned-known m.0 f.0 in
          let is : k.0 ≡ p = sym (back k.0 k.1) ∙ ap (λ (r : ℕ × ℕ). assignment (name_numbered (counted 0 all) r.0) (name_numbered (counted 0 all) r.1)) (sym k.2) ∙ m.2 in
          elim (Contains-append_cases opening_pairs pairs k.0 k.1) [
            | inl old ↦
                let there : Contains opening_assigned m.0 = subst (λ r. Contains opening_assigned r) (sym k.2) (contains-map (num all) opening_pairs k.0 old) in
                let builtin : is_builtin m.0.0 m.0.1 ≡ true = each-at (λ (r : ℕ × ℕ). is_builtin r.0 r.1 ≡ true) opening_assigned m.0 (refl, (refl, tt)) there in
                absurd (let not_so = not-true (is_builtin m.0.0 m.0.1) f.1 in cc)
            | inr more ↦ subst (λ x. Contains given x) is (is-given k.0 more)
          ]

      from : Contains given p → Contains (policy_assignments (shaped rights associations prohibitions all all_assigned)) p
      from c =
          let mine = sorted-has leads_before given p c in
          let there = pairs-assigned p mine in
          let other : is_builtin (place all p.from) (place all p.to) ≡ false = false_from_ne_true (is_builtin (place all p.from) (place all p.to)) (λ is.
          let old = builtin-is (place all p.from) (place all p.to) is in
          let o = map-contains (num all) opening_pairs (num all p) (subst (λ l. Contains l (num all p)) (sym opening-num) old) in
          let on = named o.0 (Contains-append_left opening_pairs pairs o.0 o.1) in
          let pn = named p (Contains-append_right opening_pairs pairs p mine) in
          let same : o.0 ≡ p = num-apart all o.0 p on.0 on.1 pn.0 pn.1 o.2 in
          apart-opening p (subst (λ x. Contains opening_pairs x) same o.1) mine) in
          subst (λ x. Contains (policy_assignments (shaped rights associations prohibitions all all_assigned)) x) (back p (Contains-append_right opening_pairs pairs p mine))
          (contains-map (λ (r : ℕ × ℕ). assignment (name_numbered (counted 0 all) r.0) (name_numbered (counted 0 all) r.1))
          (filter (λ (r : ℕ × ℕ). not (is_builtin r.0 r.1)) all_assigned) (num all p)
          (contains-filter (λ (r : ℕ × ℕ). not (is_builtin r.0 r.1)) all_assigned (num all p) there (rw other refl)))

    pub elements-same : AreSame (policy_elements (shaped rights associations prohibitions all all_assigned)) es
    elements-same e = rw (behind 3 os (omega arith)) (has-os e, os-has e) where
      behind : (n : ℕ) (ds : List DocElement) → 3 ≤ n → map doc_of (filter (λ (e : Element). not (is_builtin_element e.number)) (counted n ds)) ≡ ds
      behind n [] far = refl
      behind n (d ∷ ds) far =
          rw (le-ltb n 3 far) (ap (λ l. d ∷ l) (behind (n + 1) ds (omega (arith, far))))
