-- What a decision says, in the standard's words.
use Rattle.std.proofs.Common.{◌≡◌, ◌↔◌, ℕ, Bool, true, false, not, ◌&&◌, List, Option, Some, None, refl, ◌∙◌, ap, arith, ◌⊎◌, inl, inr}
use Rattle.std.specs.List.{find}
use Rattle.std.proofs.lemmas.Bool.{and_parts, and_from, not-true, not_from_false, false_from_ne_true}
use Rattle.std.proofs.lemmas.List.Elements.{All-weaker}
use Rattle.std.proofs.lemmas.List.Folds.{Any-from_list_any, list_any-from_Any}
use Rattle.pm_model.specs.Decision.{meets, is_met, lacking, applies_by, covers, forbids, forbidding, first_applying}
use Rattle.pm_model.specs.declared.prohibitions.Prohibition.{Prohibition}
use Rattle.pm_model.specs.declared.rights.Association.{Association}
use Rattle.pm_decide.specs.declared.verdict.Verdict.{Verdict}
use Rattle.pm_decide.specs.declared.verdict.Verdict.TheVariants.{Granted, NoClass, Prohibited}
use Rattle.pm_decide.specs.Verdict.{decision}
use Rattle.pm_decide.specs.Meaning.{IsFirst, IsGiven, HasPrivilege, IsUnmet, Denies, IsFree, Says}
use Rattle.pm_decide.proofs.Firsts.{IsSought, first-one, first-none, first-as, sought, find-filter}

module _ (below : ℕ → ℕ → Bool) where
  -- ---- the classes

  module _ (associations : List Association) (u r e : ℕ) where
    abbrev unmet : ℕ → Bool
    unmet pc = below e pc && not (is_met below associations u r e pc)

    to-unmet : (pc : ℕ) → unmet pc ≡ true → IsUnmet below associations u r e pc
    to-unmet pc h =
        let p = and_parts (below e pc) (not (is_met below associations u r e pc)) h in
        let no : is_met below associations u r e pc ≡ false = not-true _ p.1 in
        (p.0, λ given. let yes = list_any-from_Any (meets below u r e pc) associations given in cc)

    from-unmet : (pc : ℕ) → IsUnmet below associations u r e pc → unmet pc ≡ true
    from-unmet pc h =
        let no = false_from_ne_true (is_met below associations u r e pc)
        (λ is. h.1 (Any-from_list_any (meets below u r e pc) associations is)) in
        and_from (below e pc) (not (is_met below associations u r e pc)) h.0 (not_from_false _ no)

    to-given : (pc : ℕ) → (unmet pc ≡ true → ⊥) → below e pc ≡ true → IsGiven below associations u r e pc
    to-given pc met within = of (is_met below associations u r e pc) refl where
      of : (b : Bool) → is_met below associations u r e pc ≡ b → IsGiven below associations u r e pc
      of true is = Any-from_list_any (meets below u r e pc) associations is
      of false is = absurd (met (and_from (below e pc) (not (is_met below associations u r e pc)) within (not_from_false _ is)))

    -- no class is lacking and the privilege is there, or the first is lacking
    pub classes-asked : (classes : List ℕ) →
        ((lacking below associations classes u r e ≡ None) × HasPrivilege below associations classes u r e)
        ⊎ ((i : ℕ) × (pc : ℕ) × (lacking below associations classes u r e ≡ Some pc) × IsFirst (IsUnmet below associations u r e) classes i pc)
    classes-asked classes = of (sought unmet 0 classes) where
      filtered : lacking below associations classes u r e ≡ find unmet classes
      filtered = find-filter (below e) (λ pc. not (is_met below associations u r e pc)) classes

      of : IsSought unmet 0 classes →
          ((lacking below associations classes u r e ≡ None) × HasPrivilege below associations classes u r e)
          ⊎ ((i : ℕ) × (pc : ℕ) × (lacking below associations classes u r e ≡ Some pc) × IsFirst (IsUnmet below associations u r e) classes i pc)
      of (inl none) = inl (
        filtered ∙ none.0,
        All-weaker (λ pc. unmet pc ≡ true → ⊥) (λ pc. below e pc ≡ true → IsGiven below associations u r e pc) to-given classes none.2,
      )
      of (inr (i, pc, found, place, first)) =
          inr (i, pc, filtered ∙ found, first-as (λ pc. unmet pc ≡ true) (IsUnmet below associations u r e) to-unmet from-unmet classes i pc first)

    -- where there is the privilege no class is the first that isn't met
    privileged : (classes : List ℕ) (i pc : ℕ) → HasPrivilege below associations classes u r e →
        IsFirst (IsUnmet below associations u r e) classes i pc → ⊥
    privileged classes i pc all =
        first-none (IsUnmet below associations u r e) classes i pc
        (All-weaker (λ pc. below e pc ≡ true → IsGiven below associations u r e pc) (λ pc. IsUnmet below associations u r e pc → ⊥)
        (λ pc given un. un.1 (given un.0)) classes all)

  -- ---- the prohibitions

  module _ (u : ℕ) (q : Option ℕ) (r e : ℕ) where
    to-denies : (p : Prohibition) → forbids below u q r e p ≡ true → Denies below u q r e p
    to-denies p h = and_parts (applies_by below u q p.subject) (covers below r e p) h

    from-denies : (p : Prohibition) → Denies below u q r e p → forbids below u q r e p ≡ true
    from-denies p h = and_from (applies_by below u q p.subject) (covers below r e p) h.0 h.1

    -- no prohibition denies, or the first does, found by its place and by itself
    pub prohibitions-asked : (ps : List Prohibition) →
        ((first_applying below ps u q r e ≡ None) × (forbidding below ps u q r e ≡ None) × IsFree below ps u q r e)
        ⊎ ((i : ℕ) × (p : Prohibition) × (first_applying below ps u q r e ≡ Some i) × (forbidding below ps u q r e ≡ Some p)
        × IsFirst (Denies below u q r e) ps i p)
    prohibitions-asked ps = elim (sought (forbids below u q r e) 0 ps) [
      | inl none ↦ inl (
        none.1,
        none.0,
        All-weaker (λ p. forbids below u q r e p ≡ true → ⊥) (λ p. Denies below u q r e p → ⊥)
            (λ p no denies. no (from-denies p denies)) ps none.2,
      )
      | inr some ↦ inr (
        some.0,
        some.1,
        some.3 ∙ ap Some (omega arith),
        some.2,
        first-as (λ p. forbids below u q r e p ≡ true) (Denies below u q r e) to-denies from-denies ps some.0 some.1 some.4,
      )
    ]

  -- ---- the verdict

  module _ (associations : List Association) (ps : List Prohibition) (classes : List ℕ) (u : ℕ) (q : Option ℕ) (r e : ℕ) where
    abbrev IsSaid : Verdict → Type 0
    IsSaid v = Says below associations ps classes u q r e v

    -- only one verdict says what holds
    said-one : (v w : Verdict) → IsSaid v → IsSaid w → v ≡ w
    said-one Granted Granted h k = refl
    said-one Granted (NoClass pc) h k = absurd (privileged associations u r e classes k.0 pc h.0 k.1)
    said-one Granted (Prohibited i) h k = absurd (first-none (Denies below u q r e) ps i k.1 h.1 k.2)
    said-one (NoClass pc) Granted h k = absurd (privileged associations u r e classes h.0 pc k.0 h.1)
    said-one (NoClass pc) (NoClass pd) h k =
        ap NoClass (first-one (IsUnmet below associations u r e) classes h.0 k.0 pc pd h.1 k.1).1
    said-one (NoClass pc) (Prohibited i) h k = absurd (privileged associations u r e classes h.0 pc k.0 h.1)
    said-one (Prohibited i) Granted h k = absurd (first-none (Denies below u q r e) ps i h.1 k.1 h.2)
    said-one (Prohibited i) (NoClass pc) h k = absurd (privileged associations u r e classes k.0 pc h.0 k.1)
    said-one (Prohibited i) (Prohibited j) h k = ap Prohibited (first-one (Denies below u q r e) ps i j h.1 k.1 h.2 k.2).0

    pub decision-said : IsSaid (decision below associations ps classes u q r e)
    decision-said = elim (classes-asked associations u r e classes) [
      | inl met ↦ elim (prohibitions-asked u q r e ps) [
        | inl free ↦ rw (met.0, free.0) (met.1, free.2)
        | inr bar ↦ rw (met.0, bar.2) (met.1, bar.1, bar.4)
      ]
      | inr lack ↦ rw (lack.2) (lack.0, lack.3)
    ]

    -- the decision is the verdict that says what holds
    pub decision_said : (v : Verdict) → (decision below associations ps classes u q r e ≡ v) ↔ Says below associations ps classes u q r e v
    decision_said v = (λ is. rw is at decision-said, λ said. said-one (decision below associations ps classes u q r e) v decision-said said)
