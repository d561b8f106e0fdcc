-- What waits for ever leads around: there is no cycle exactly where after enough rounds nothing waits.
use Rattle.std.proofs.Common.{zero, suc, ◌≡◌, ◌↔◌, ℕ, true, false, List, [], ◌∷◌, ◌++◌, filter, map, Contains, refl, sym, subst, inl, inr}
use Rattle.std.proofs.lemmas.Bool.{cases_Bool}
use Rattle.pm_laws.proofs.Items.{any-found, any-from, contains-filter, filter-contains, contains-first, contains-rest, contains-none}
use Rattle.pm_policy.specs.Policy.{is_assigned, is_called, assignment}
use Rattle.pm_policy.specs.Sound.{LeadsOn, IsAcyclic}
use Rattle.pm_policy.specs.declared.policy.DocElement.{DocElement}
use Rattle.pm_policy.specs.declared.policy.DocAssignment.{DocAssignment}
use Rattle.pm_policy.proofs.Ordered.{leads-append, IsAbove, LeadsWithin, none-within, same-name, name-itself, contains-map}
use Rattle.pm_policy.specs.Waiting.{waits, IsSettled, AreKnown}

module _ (pairs : List DocAssignment) where
  -- one step around
  turned : (x z : List ℕ) (rest : List (List ℕ)) → LeadsOn pairs x (z ∷ rest) x → IsAbove pairs z z
  turned x z [] h = (z, [], (subst (λ n. Contains pairs (assignment n z)) (sym h.1) h.0, refl))
  turned x z (w ∷ rest) h = (w, rest ++ z ∷ [], leads-append pairs z (w ∷ rest) x (z ∷ []) z h.1 (h.0, refl))

  -- what leads around to itself waits for ever
  pub around-waits : (k : ℕ) (x : List ℕ) → IsAbove pairs x x → waits pairs k x ≡ true
  around-waits zero x h = refl
  around-waits (suc k) x h =
      any-from (λ (p : DocAssignment). waits pairs k p.to) (filter (is_assigned x) pairs) (assignment x h.0)
      (contains-filter (is_assigned x) pairs (assignment x h.0) h.2.0 (name-itself x))
      (around-waits k h.0 (turned x h.0 h.1 h.2))

  -- what waits no more never waits again
  pub waits-less : (k : ℕ) (x : List ℕ) → waits pairs (suc k) x ≡ true → waits pairs k x ≡ true
  waits-less zero x h = refl
  waits-less (suc k) x h =
      let p = any-found (λ (p : DocAssignment). waits pairs (suc k) p.to) (filter (is_assigned x) pairs) h in
      any-from (λ (p : DocAssignment). waits pairs k p.to) (filter (is_assigned x) pairs) p.0 p.1 (waits-less k p.0.to p.2)

  -- where a round lets none go and there is no cycle, none waits
  pub none-waits : (k : ℕ) (es : List DocElement) → IsAcyclic pairs → AreKnown pairs es → IsSettled pairs k es →
      map (λ (e : DocElement). e.name) (filter (λ (e : DocElement). waits pairs k e.name) es) ≡ []
  none-waits k es acyclic known settled = none-within pairs (names waiting) acyclic (within waiting (λ e c. c)) where
    waiting : List DocElement
    waiting = filter (λ (e : DocElement). waits pairs k e.name) es

    names : List DocElement → List (List ℕ)
    names ds = map (λ (e : DocElement). e.name) ds

    on : (e : DocElement) → Contains waiting e → (y : List ℕ) × Contains (names waiting) y × IsAbove pairs e.name y
    on e c =
        let w = filter-contains (λ (e : DocElement). waits pairs k e.name) es e c in
        let p = any-found (λ (p : DocAssignment). waits pairs k p.to) (filter (is_assigned e.name) pairs) (settled e w.0 w.1) in
        let q = filter-contains (is_assigned e.name) pairs p.0 p.1 in
        let from : e.name ≡ p.0.from = same-name e.name p.0.from q.1 in
        let d = any-found (is_called p.0.to) es (known p.0 q.0).1 in
        let named : p.0.to ≡ d.0.name = same-name p.0.to d.0.name d.2 in (
          p.0.to,
          subst (λ n. Contains (names waiting) n) (sym named) (contains-map (λ (e : DocElement). e.name) waiting d.0
              (contains-filter (λ (e : DocElement). waits pairs k e.name) es d.0 d.1 (subst (λ n. waits pairs k n ≡ true) named p.2))),
          (p.0.to, [], (subst (λ n. Contains pairs (assignment n p.0.to)) (sym from) q.0, refl)),
        )

    within : (ds : List DocElement) → ((e : DocElement) → Contains ds e → Contains waiting e) → LeadsWithin pairs (names ds) (names waiting)
    within [] sub = tt
    within (e ∷ ds) sub = (on e (sub e (contains-first e ds)), within ds (λ d c. sub d (contains-rest e d ds c)))

  pub acyclic_by_rounds : (k : ℕ) (es : List DocElement) → AreKnown pairs es → IsSettled pairs k es →
      IsAcyclic pairs ↔ ((e : DocElement) → Contains es e → waits pairs k e.name ≡ false)
  acyclic_by_rounds k es known settled = (to, from) where
    to : IsAcyclic pairs → (e : DocElement) → Contains es e → waits pairs k e.name ≡ false
    to acyclic e c = elim (cases_Bool (waits pairs k e.name)) [
      | inl is ↦
          let none = none-waits k es acyclic known settled in
          let kept = contains-filter (λ (e : DocElement). waits pairs k e.name) es e c is in
          let there = contains-map (λ (e : DocElement). e.name) (filter (λ (e : DocElement). waits pairs k e.name) es) e kept in
          contains-none e.name (rw none at there)
      | inr goes ↦ goes
    ]

    from : ((e : DocElement) → Contains es e → waits pairs k e.name ≡ false) → IsAcyclic pairs
    from all x z rest round =
        let d = any-found (is_called x) es (known (assignment x z) round.0).0 in
        let named : x ≡ d.0.name = same-name x d.0.name d.2 in
        let for_ever : waits pairs k x ≡ true = around-waits k x (z, rest, round) in
        let gone : waits pairs k x ≡ false = subst (λ n. waits pairs k n ≡ false) (sym named) (all d.0 d.1) in
        cc
