-- The other assignments are made one after another, once all elements are made.
use Rattle.std.proofs.Common.{◌≡◌, ◌≤◌, ◌<◌, ◌+◌, ℕ, true, false, List, [], ◌∷◌, length, map, Contains, ◌⊎◌, inl, inr, refl, sym, ◌∙◌, ap, subst, arith, bytes_eq}
use Rattle.std.specs.List.{list_any}
use Rattle.std.proofs.lemmas.Bool.{lt-leb, false_from_ne_true, and_from}
use Rattle.pm_model.specs.Containment.{Leads, contained}
use Rattle.pm_model.specs.Effect.{may_assign, with_assignment, is_pair, max_assignments}
use Rattle.pm_model.specs.declared.prohibitions.Prohibition.{Prohibition}
use Rattle.pm_model.specs.declared.rights.Association.{Association}
use Rattle.pm_model.specs.declared.requests.Change.TheVariants as change
use Rattle.pm_model.proofs.ContainmentLaws.{path-from_contained}
use Rattle.pm_laws.proofs.Added.{length-added, added-has, has-added}
use Rattle.pm_laws.proofs.Pairs.{assigned-is}
use Rattle.pm_laws.proofs.Items.{contains-first, contains-rest, contains-cases, contains-none, none-at}
use Rattle.pm_policy.specs.Policy.{assignment, called, is_same}
use Rattle.pm_policy.specs.Order.{is_made}
use Rattle.pm_policy.specs.Requests.{assign}
use Rattle.pm_policy.specs.Sound.{LeadsOn, IsAcyclic, FitAssigned, AreOnceAssigned}
use Rattle.pm_policy.specs.declared.policy.DocElement.{DocElement}
use Rattle.pm_policy.specs.declared.policy.DocAssignment.{DocAssignment}
use Rattle.pm_policy.proofs.Steps.{IsStep, Steps}
use Rattle.pm_policy.proofs.Places.{place, number-made, element-made, called-made, place-apart}
use Rattle.pm_policy.proofs.Created.{shaped, quiet, effect-made}
use Rattle.pm_policy.proofs.Ordered.{name-itself}
use Rattle.pm_policy.proofs.Fitting.{num, both-called}

-- two assignments of one pair of numbers are one
pub num-apart : (all : List DocElement) (p q : DocAssignment) → is_made all p.from ≡ true → is_made all p.to ≡ true → is_made all q.from ≡ true →
    is_made all q.to ≡ true → num all p ≡ num all q → p ≡ q
num-apart all p q pf pt qf qt same =
    let from : p.from ≡ q.from = place-apart all p.from q.from pf qf (ap (λ (r : ℕ × ℕ). r.0) same) in
    let to : p.to ≡ q.to = place-apart all p.to q.to pt qt (ap (λ (r : ℕ × ℕ). r.1) same) in
    rw (from, to) refl

module _ (all : List DocElement) where
  abbrev pub IsNamed : DocAssignment → Type 0
  IsNamed p = (is_made all p.from ≡ true) × (is_made all p.to ≡ true)

  -- each assignment is one of these
  abbrev pub AreOf : List DocAssignment → List (ℕ × ℕ) → Type 0
  AreOf known assigned = (r : ℕ × ℕ) → Contains assigned r → (q : DocAssignment) × Contains known q × (r ≡ num all q)

  -- the assignments once these are made too
  abbrev pub assign_all : List (ℕ × ℕ) → List DocAssignment → List (ℕ × ℕ)
  assign_all assigned [] = assigned
  assign_all assigned (p ∷ ps) = assign_all (with_assignment (num all p) assigned) ps

  -- those before and these
  pub all-cases : (assigned : List (ℕ × ℕ)) (ps : List DocAssignment) (r : ℕ × ℕ) → Contains (assign_all assigned ps) r →
      Contains assigned r ⊎ ((p : DocAssignment) × Contains ps p × (r ≡ num all p))
  all-cases assigned [] r c = inl c
  all-cases assigned (p ∷ ps) r c = elim (all-cases (with_assignment (num all p) assigned) ps r c) [
    | inl before ↦ elim (contains-cases (num all p) r assigned (has-added (num all p) assigned r before)) [
      | inl same ↦ inr (p, contains-first p ps, sym same)
      | inr old ↦ inl old
    ]
    | inr later ↦ inr (later.0, contains-rest p later.0 ps later.1, later.2)
  ]

  pub all-old : (assigned : List (ℕ × ℕ)) (ps : List DocAssignment) (r : ℕ × ℕ) → Contains assigned r → Contains (assign_all assigned ps) r
  all-old assigned [] r c = c
  all-old assigned (p ∷ ps) r c = all-old (with_assignment (num all p) assigned) ps r (added-has (num all p) assigned r (contains-rest (num all p) r assigned c))

  pub all-new : (assigned : List (ℕ × ℕ)) (ps : List DocAssignment) (p : DocAssignment) → Contains ps p → Contains (assign_all assigned ps) (num all p)
  all-new assigned [] p c = contains-none p c
  all-new assigned (q ∷ ps) p c = elim (contains-cases q p ps c) [
    | inl same ↦ all-old (with_assignment (num all q) assigned) ps (num all p)
        (subst (λ x. Contains (with_assignment (num all q) assigned) (num all x)) same (added-has (num all q) assigned (num all q) (contains-first (num all q) assigned)))
    | inr below ↦ all-new (with_assignment (num all q) assigned) ps p below
  ]

  module _ (known : List DocAssignment) (named : (q : DocAssignment) → Contains known q → IsNamed q) where
    -- a path of numbers is one of names
    names-path : (assigned : List (ℕ × ℕ)) → AreOf known assigned → (x : ℕ) (path : List ℕ) (y : ℕ) → Leads assigned x path y →
        (a b : List ℕ) → x ≡ place all a → y ≡ place all b → is_made all a ≡ true → is_made all b ≡ true → (names : List (List ℕ)) × LeadsOn known a names b
    names-path assigned of x [] y h a b xa yb am bm = ([], place-apart all a b am bm (sym xa ∙ h ∙ yb))
    names-path assigned of x (z ∷ path) y h a b xa yb am bm =
        let q = of (x, z) h.0 in
        let n = named q.0 q.1 in
        let from : a ≡ q.0.from = place-apart all a q.0.from am n.0 (sym xa ∙ ap (λ (r : ℕ × ℕ). r.0) q.2) in
        let rest = names-path assigned of z path y h.1 q.0.to b (ap (λ (r : ℕ × ℕ). r.1) q.2) yb n.1 bm in
        (q.0.to ∷ rest.0, (subst (λ m. Contains known (assignment m q.0.to)) (sym from) q.1, rest.1))

    no-cycle : (assigned : List (ℕ × ℕ)) → AreOf known assigned → IsAcyclic known → (p : DocAssignment) → Contains known p →
        contained assigned (place all p.to) (place all p.from) ≡ false
    no-cycle assigned of acyclic p c = false_from_ne_true (contained assigned (place all p.to) (place all p.from)) (λ up.
        let path = path-from_contained assigned (place all p.to) (place all p.from) up in
        let n = named p c in
        let back = names-path assigned of (place all p.to) path.0 (place all p.from) path.1 p.to p.from refl refl n.1 n.0 in
        acyclic p.from p.to back.0 (c, back.1))

    module _ (rights : List (List ℕ)) (associations : List Association) (prohibitions : List Prohibition) where
      one : (assigned : List (ℕ × ℕ)) (p : DocAssignment) → FitAssigned all p → Contains known p → AreOf known assigned → IsAcyclic known →
          (Contains assigned (num all p) → ⊥) → length assigned < max_assignments →
          IsStep (shaped rights associations prohibitions all assigned) (assign p)
          (shaped rights associations prohibitions all (with_assignment (num all p) assigned))
      one assigned p fit c of acyclic new few =
          let b = both-called may_assign (called all p.from) (called all p.to) fit in
          let at = element-made 0 all p.from b.0 b.2 in
          let to = element-made 0 all p.to b.1 b.3 in
          let x = number-made 0 all p.from (called-made all p.from b.0 b.2) in
          let y = number-made 0 all p.to (called-made all p.to b.1 b.3) in
          record {
            change = change.Assign (place all p.from) (place all p.to);
            resolved = rw (x, y) refl;
            made = effect-made (shaped rights associations prohibitions all assigned) (change.Assign (place all p.from) (place all p.to)) (
              rw (at, to, b.4) refl,
              (
                false_from_ne_true (list_any (is_pair (place all p.from) (place all p.to)) assigned) (λ is. new (assigned-is assigned (place all p.from) (place all p.to) is)),
                (no-cycle assigned of acyclic p c, (lt-leb max_assignments (length assigned) few, tt)),
              ),
            );
            obliging = refl;
            quiet = quiet rights associations prohibitions all (with_assignment (num all p) assigned);
          }

      pub assigns : (assigned : List (ℕ × ℕ)) (ps : List DocAssignment) → AreOnceAssigned ps → ((p : DocAssignment) → Contains ps p → FitAssigned all p) →
          ((p : DocAssignment) → Contains ps p → Contains known p) → AreOf known assigned → IsAcyclic known →
          ((p : DocAssignment) → Contains ps p → Contains assigned (num all p) → ⊥) → length assigned + length ps ≤ max_assignments →
          Steps (shaped rights associations prohibitions all assigned) (map assign ps) (shaped rights associations prohibitions all (assign_all assigned ps))
      assigns assigned [] once fit sub of acyclic new few = refl
      assigns assigned (p ∷ ps) once fit sub of acyclic new few = (
        shaped rights associations prohibitions all (with_assignment (num all p) assigned),
        one assigned p (fit p (contains-first p ps)) (sub p (contains-first p ps)) of acyclic (new p (contains-first p ps)) (omega (arith, few)),
        assigns (with_assignment (num all p) assigned) ps once.1 (λ q c. fit q (contains-rest p q ps c)) (λ q c. sub q (contains-rest p q ps c))
            (λ r c. elim (contains-cases (num all p) r assigned (has-added (num all p) assigned r c)) [
              | inl same ↦ (p, sub p (contains-first p ps), sym same)
              | inr old ↦ of r old
            ]) acyclic
            (λ q c there. elim (contains-cases (num all p) (num all q) assigned (has-added (num all p) assigned (num all q) there)) [
              | inl same ↦
                  let pn = named p (sub p (contains-first p ps)) in
                  let qn = named q (sub q (contains-rest p q ps c)) in
                  let one : p ≡ q = num-apart all p q pn.0 pn.1 qn.0 qn.1 same in
                  let apart = none-at (is_same p) ps q once.0 c in
                  let is : is_same p q ≡ true = subst (λ x. is_same p x ≡ true) one (and_from (bytes_eq p.from p.from) (bytes_eq p.to p.to) (name-itself p.from) (name-itself p.to)) in
                  absurd (cc)
              | inr old ↦ new q (contains-rest p q ps c) old
            ])
            (let l = length-added (num all p) assigned in omega (arith, l, few)),
      )
