-- All elements that a document makes, behind those of the opening.
use Rattle.std.proofs.Common.{◌≡◌, ◌≤◌, ℕ, zero, suc, true, false, List, [], ◌∷◌, ◌++◌, length, find, Option, Some, None, Contains, ◌⊎◌, inl, inr, refl, sym, subst, arith, append_assoc}
use Rattle.std.specs.List.{list_any}
use Rattle.std.proofs.lemmas.List.{append-nil}
use Rattle.std.proofs.lemmas.List.Elements.{Contains-push_cases, Contains-append_cases, Contains-append_right, Contains-append_left}
use Rattle.std.proofs.lemmas.Bool.{or_parts}
use Rattle.pm_laws.proofs.Names.{other-swapped}
use Rattle.pm_laws.proofs.Items.{any-from, any-found, none-from, none-at}
use Rattle.pm_model.specs.Effect.{may_assign}
use Rattle.pm_policy.specs.Policy.{is_called, called}
use Rattle.pm_policy.specs.Order.{is_made, is_ready, ordered, then_after, without}
use Rattle.pm_policy.specs.Sound.{AreOnceCalled, FitAssigned}
use Rattle.pm_policy.specs.declared.policy.DocElement.{DocElement}
use Rattle.pm_policy.specs.declared.policy.DocAssignment.{DocAssignment}
use Rattle.pm_policy.proofs.Places.{called-name}
use Rattle.pm_policy.proofs.Ordered.{AreReady, called-once}
use Rattle.pm_policy.proofs.Fitting.{both-called}

pub made-append : (xs ys : List DocElement) (name : List ℕ) → is_made (xs ++ ys) name ≡ true → (is_made xs name ≡ true) ⊎ (is_made ys name ≡ true)
made-append xs ys name h =
    let p = any-found (is_called name) (xs ++ ys) h in
    elim (Contains-append_cases xs ys p.0 p.1) [
      | inl left ↦ inl (any-from (is_called name) xs p.0 left p.2)
      | inr right ↦ inr (any-from (is_called name) ys p.0 right p.2)
    ]

pub made-within : (xs ys : List DocElement) (name : List ℕ) → ((e : DocElement) → Contains xs e → Contains ys e) → is_made xs name ≡ true → is_made ys name ≡ true
made-within xs ys name sub h = let p = any-found (is_called name) xs h in any-from (is_called name) ys p.0 (sub p.0 p.1) p.2

pub once-push : (made : List DocElement) (e : DocElement) → AreOnceCalled made → is_made made e.name ≡ false → AreOnceCalled (made ++ e ∷ [])
once-push [] e h new = (refl, tt)
once-push (d ∷ made) e h new = (others, once-push made e h.1 apart.1) where
  apart : (is_called e.name d ≡ false) × (is_made made e.name ≡ false)
  apart = or_parts (is_called e.name d) (is_made made e.name) new

  others : list_any (is_called d.name) (made ++ e ∷ []) ≡ false
  others = none-from (is_called d.name) (made ++ e ∷ []) (λ x c. elim (Contains-push_cases made e x c) [
    | inl old ↦ none-at (is_called d.name) made x h.0 old
    | inr is ↦ subst (λ (y : DocElement). is_called d.name y ≡ false) is (other-swapped e.name d.name apart.0)
  ])

pub ready-once : (pairs : List DocAssignment) (made es : List DocElement) → AreOnceCalled made → AreReady pairs made es → AreOnceCalled (made ++ es)
ready-once pairs made [] once h = rw (append-nil made) once
ready-once pairs made (e ∷ es) once h =
    subst (λ (l : List DocElement). AreOnceCalled l) (append_assoc made (e ∷ []) es) (ready-once pairs (made ++ e ∷ []) es (once-push made e once h.0) h.2)

-- the same elements, the same kinds
pub called-same : (xs ys : List DocElement) (name : List ℕ) (c : DocElement) → ((e : DocElement) → Contains xs e → Contains ys e) → AreOnceCalled ys →
    called xs name ≡ Some c → called ys name ≡ Some c
called-same xs ys name c sub once is =
    let n = called-name xs name c is in
    subst (λ m. called ys m ≡ Some c) (sym n.1) (called-once ys c once (sub c n.0))

pub fit-same : (xs ys : List DocElement) (p : DocAssignment) → ((e : DocElement) → Contains xs e → Contains ys e) → AreOnceCalled ys →
    FitAssigned xs p → FitAssigned ys p
fit-same xs ys p sub once fit =
    let b = both-called may_assign (called xs p.from) (called xs p.to) fit in
    rw (called-same xs ys p.from b.0 sub once b.2, called-same xs ys p.to b.1 sub once b.3) b.4

pub append-within : (xs ys zs : List DocElement) → ((e : DocElement) → Contains ys e → Contains zs e) → (e : DocElement) → Contains (xs ++ ys) e → Contains (xs ++ zs) e
append-within xs ys zs sub e c = elim (Contains-append_cases xs ys e c) [
  | inl left ↦ Contains-append_left xs zs e left
  | inr right ↦ Contains-append_right xs zs e (sub e right)
]

pub ordered-few : (pairs : List DocAssignment) (n : ℕ) (made rest : List DocElement) → length (ordered pairs n made rest) ≤ n
ordered-few pairs zero made rest = omega arith
ordered-few pairs (suc n) made rest = of (find (is_ready pairs made) rest) (λ e. ordered-few pairs n (made ++ e ∷ []) (without e rest)) where
  of : (o : Option DocElement) → ((e : DocElement) → length (ordered pairs n (made ++ e ∷ []) (without e rest)) ≤ n) →
      length (then_after o (λ e. ordered pairs n (made ++ e ∷ []) (without e rest))) ≤ suc n
  of None further = omega arith
  of (Some e) further = let rest = further e in omega (arith, rest)

-- what stands behind other elements has other names
pub apart : (xs es : List DocElement) (e : DocElement) → AreOnceCalled (xs ++ es) → Contains es e → is_made xs e.name ≡ false
apart [] es e once c = refl
apart (x ∷ xs) es e once c =
    rw (other-swapped x.name e.name (none-at (is_called x.name) (xs ++ es) e once.0 (Contains-append_right xs es e c))) (apart xs es e once.1 c)
