-- There is no cycle exactly where each element has its turn, from nothing on.
use Rattle.std.proofs.Common.{◌≡◌, ◌≤◌, ◌<◌, ◌↔◌, ℕ, true, false, List, [], ◌∷◌, ◌++◌, length, Contains, inl, inr, refl, sym, ◌∙◌, ap, subst, arith, bytes_eq, filter, append_assoc}
use Rattle.std.proofs.lemmas.Bool.{cases_Bool}
use Rattle.std.proofs.lemmas.Slice.Eq.{bytes_eq-Decides}
use Rattle.pm_laws.proofs.Items.{contains-filter, any-found, any-from}
use Rattle.pm_policy.specs.Policy.{is_called, is_assigned, assignment}
use Rattle.pm_policy.specs.Order.{is_made, ordered}
use Rattle.pm_policy.specs.Sound.{LeadsOn, IsAcyclic, AreOnceCalled}
use Rattle.pm_policy.specs.Waiting.{AreKnown}
use Rattle.pm_policy.specs.declared.policy.DocElement.{DocElement}
use Rattle.pm_policy.specs.declared.policy.DocAssignment.{DocAssignment}
use Rattle.pm_policy.proofs.Places.{place, place-below, place-more, place-new}
use Rattle.pm_policy.proofs.Ordered.{AreReady, ordered-whole, ordered-ready, all-at, same-name, made-push}

module _ (pairs : List DocAssignment) where
  -- what an element is assigned to stands before it
  descends : (made out : List DocElement) → AreReady pairs made out → (p : DocAssignment) → Contains pairs p → is_made out p.from ≡ true →
      is_made made p.from ≡ false → place (made ++ out) p.to < place (made ++ out) p.from
  descends made [] ready p c there new = absurd (cc)
  descends made (e ∷ out) ready p c there new = elim (cases_Bool (is_called p.from e)) [
    | inl is ↦
        let mine : bytes_eq e.name p.from ≡ true = (bytes_eq-Decides e.name p.from).1 (sym (same-name p.from e.name is)) in
        let done = all-at (λ (q : DocAssignment). is_made made q.to) (filter (is_assigned e.name) pairs) p ready.1 (contains-filter (is_assigned e.name) pairs p c mine) in
        let low = place-below 0 made p.to done in
        let to = place-more 0 made (e ∷ out) p.to done in
        let from = place-new 0 made out e p.from new is in omega (arith, low, to, from)
    | inr other ↦
        let not_yet : is_made (made ++ e ∷ []) p.from ≡ false = made-push made e p.from ∙ rw (new, other) refl in
        subst (λ l. place l p.to < place l p.from) (append_assoc made (e ∷ []) out)
        (descends (made ++ e ∷ []) out ready.2 p c (rw other at there) not_yet)
  ]

  falls : (out : List DocElement) → AreReady pairs [] out → ((p : DocAssignment) → Contains pairs p → is_made out p.from ≡ true) →
      (x : List ℕ) (path : List (List ℕ)) (y : List ℕ) → LeadsOn pairs x path y → place out y ≤ place out x
  falls out ready all x [] y h = let same = ap (λ n. place out n) h in omega (arith, same)
  falls out ready all x (z ∷ path) y h =
      let one = descends [] out ready (assignment x z) h.0 (all (assignment x z) h.0) refl in
      let rest = falls out ready all z path y h.1 in omega (arith, one, rest)

  abbrev pub HaveTurns : List DocElement → Type 0
  HaveTurns es = (e : DocElement) → Contains es e → Contains (ordered pairs (length es) [] es) e

  pub acyclic_exactly : (es : List DocElement) → AreOnceCalled es → AreKnown pairs es → IsAcyclic pairs ↔ HaveTurns es
  acyclic_exactly es once known = (to, from) where
    to : IsAcyclic pairs → HaveTurns es
    to acyclic =
        ordered-whole pairs (length es) [] es acyclic (record { once = once; closed = λ e p c cp is. inr (known p cp).1 }) (omega arith)

    from : HaveTurns es → IsAcyclic pairs
    from turns x z path round =
        let out = ordered pairs (length es) [] es in
        let ready = ordered-ready pairs (length es) [] es (λ d c. refl) in
        let all : (p : DocAssignment) → Contains pairs p → is_made out p.from ≡ true = λ p c.
        let q = any-found (is_called p.from) es (known p c).0 in any-from (is_called p.from) out q.0 (turns q.0 q.1) q.2 in
        let one = descends [] out ready (assignment x z) round.0 (all (assignment x z) round.0) refl in
        let rest = falls out ready all z path x round.1 in omega (arith, one, rest)
