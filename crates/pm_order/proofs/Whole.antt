-- Elements of different names all have their turns exactly where there are as many turns as elements.
use Rattle.std.proofs.Common.{zero, suc, ◌≡◌, ◌≤◌, ◌↔◌, ℕ, false, not, List, [], ◌∷◌, ◌++◌, length, find, Option, None, Some, Contains, inl, inr, refl, subst, arith}
use Rattle.std.proofs.lemmas.Bool.{cases_Bool}
use Rattle.pm_laws.proofs.Items.{contains-filter, contains-first, contains-none, contains-rest, find-found, none-at}
use Rattle.pm_policy.specs.Order.{is_ready, ordered, then_after, without}
use Rattle.pm_policy.specs.Policy.{is_called}
use Rattle.pm_policy.specs.Sound.{AreOnceCalled, IsAcyclic}
use Rattle.pm_policy.specs.Waiting.{AreKnown}
use Rattle.pm_policy.specs.declared.policy.DocElement.{DocElement}
use Rattle.pm_policy.specs.declared.policy.DocAssignment.{DocAssignment}
use Rattle.pm_policy.proofs.Ordered.{filter-fewer, name-itself, one-called, same-name}
use Rattle.pm_policy.proofs.Sorted.{once-kept}
use Rattle.pm_policy.proofs.Standing.{ordered-few}
use Rattle.pm_policy.proofs.Turns.{acyclic_exactly, HaveTurns}

-- a list that has each of them is as long
as-many : (es out : List DocElement) → AreOnceCalled es → ((e : DocElement) → Contains es e → Contains out e) → length es ≤ length out
as-many [] out once has = omega arith
as-many (e ∷ es) out once has =
    let here = has e (contains-first e es) in
    let fewer = filter-fewer (λ d. not (is_called e.name d)) out e here (rw (name-itself e.name) refl) in
    let rest = as-many es (without e out) once.1 (λ d c. contains-filter (λ x. not (is_called e.name x)) out d (has d (contains-rest e d es c))
    (let other : is_called e.name d ≡ false = none-at (is_called e.name) es d once.0 c in rw other refl)) in
    omega (arith, fewer, rest)

module _ (pairs : List DocAssignment) where
  all-turns : (n : ℕ) (made rest : List DocElement) → AreOnceCalled rest → length rest ≤ n → n ≤ length (ordered pairs n made rest) →
      (d : DocElement) → Contains rest d → Contains (ordered pairs n made rest) d
  all-turns zero made [] once few all d c = contains-none d c
  all-turns zero made (e ∷ rest) once few all d c = absurd (omega (arith, few))
  all-turns (suc n) made rest once few all d c = of (find (is_ready pairs made) rest) refl (λ e. all-turns n (made ++ e ∷ []) (without e rest)) all where
    of : (o : Option DocElement) → find (is_ready pairs made) rest ≡ o →
        ((e : DocElement) → AreOnceCalled (without e rest) → length (without e rest) ≤ n → n ≤ length (ordered pairs n (made ++ e ∷ []) (without e rest)) →
        (x : DocElement) → Contains (without e rest) x → Contains (ordered pairs n (made ++ e ∷ []) (without e rest)) x) →
        suc n ≤ length (then_after o (λ e. ordered pairs n (made ++ e ∷ []) (without e rest))) →
        Contains (then_after o (λ e. ordered pairs n (made ++ e ∷ []) (without e rest))) d
    of None is further all = absurd (omega (arith, all))
    of (Some e) is further all =
        let there = (find-found (is_ready pairs made) rest e is).0 in
        elim (cases_Bool (is_called e.name d)) [
          | inl it ↦
              let same : e ≡ d = one-called rest e d once there c (same-name e.name d.name it) in
              subst (λ x. Contains (e ∷ ordered pairs n (made ++ e ∷ []) (without e rest)) x) same (contains-first e (ordered pairs n (made ++ e ∷ []) (without e rest)))
          | inr other ↦
              let fewer = filter-fewer (λ x. not (is_called e.name x)) rest e there (rw (name-itself e.name) refl) in
              contains-rest e d (ordered pairs n (made ++ e ∷ []) (without e rest))
              (further e (once-kept (λ (x : DocElement). is_called x.name) (λ x. not (is_called e.name x)) rest once) (omega (arith, fewer, few)) (omega (arith, all)) d
              (contains-filter (λ x. not (is_called e.name x)) rest d c (rw other refl)))
        ]

  pub whole-acyclic : (es : List DocElement) → AreOnceCalled es → AreKnown pairs es →
      (length (ordered pairs (length es) [] es) ≡ length es) ↔ IsAcyclic pairs
  whole-acyclic es once known = (to, from) where
    to : length (ordered pairs (length es) [] es) ≡ length es → IsAcyclic pairs
    to whole = (acyclic_exactly pairs es once known).1 (all-turns (length es) [] es once (omega arith) (omega (arith, whole)))

    from : IsAcyclic pairs → length (ordered pairs (length es) [] es) ≡ length es
    from acyclic =
        let turns : HaveTurns pairs es = (acyclic_exactly pairs es once known).0 acyclic in
        let many = as-many es (ordered pairs (length es) [] es) once turns in
        let few = ordered-few pairs (length es) [] es in omega (arith, many, few)
