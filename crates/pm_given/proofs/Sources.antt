-- What has one container alone has what that container has.
use Rattle.std.proofs.Common.{◌≡◌, ◌≢◌, ◌⊎◌, ◌<◌, ◌==◌, ◌||◌, ℕ, Bool, true, false, List, [], ◌∷◌, All, length, get_or, set, slice_get, Option, None, Some, subst, refl, sym, ap, ◌∙◌, arith, inl, inr}
use Rattle.std.specs.List.{list_any, list_all}
use Rattle.std.specs.Option.{ForSome}
use Rattle.std.proofs.lemmas.Bool.{cases_eq, eq-eqb, eqb-true, ne_eqb, true≢false}
use Rattle.std.proofs.lemmas.List.{get_or-set_same, get_or-set_other}
use Rattle.std.proofs.lemmas.List.Elements.{All-head, All-tail}
use Rattle.pm_model.specs.Containment.{Relation, containers}
use Rattle.pm_model.specs.Decision.{associations_of, classes_of, is_grantee, privilege}
use Rattle.pm_model.specs.declared.rights.Grant.{Grant}
use Rattle.pm_model.specs.declared.rights.Grantee.{Grantee}
use Rattle.pm_decide.specs.Gives.{gives}
use Rattle.pm_decide.specs.Sets.{IsSetOf}
use Rattle.pm_decide.proofs.RightSets.{set-same}
use Rattle.pm_given.specs.Given.{given, is_at}
use Rattle.pm_given.specs.Held.{is_held}
use Rattle.pm_given.specs.Parents.{AreParents}
use Rattle.pm_given.specs.Told.{is_marked}
use Rattle.pm_given.proofs.Grants.{held-privilege}

-- ---- lists of one

pub one : (xs : List ℕ) (p : ℕ) → length xs ≡ 1 → slice_get xs 0 ≡ Some p → xs ≡ p ∷ []
one [] p long first = absurd (omega (arith, long))
one (x ∷ []) p long first = cc
one (x ∷ y ∷ xs) p long first = absurd (omega (arith, long))

not-empty : (p : ℕ) (xs : List ℕ) → xs ≡ [] → xs ≡ p ∷ [] → ⊥
not-empty p xs none some = cc

-- ---- what is contained in what

module _ (below : ℕ → ℕ → Bool) (x p : ℕ) (lies : (y : ℕ) → below x y ≡ (x == y || below p y)) where
  apart : (y : ℕ) → (x == y) ≡ false → below x y ≡ below p y
  apart y other = lies y ∙ rw other refl

  turned : (y : ℕ) → (y == x) ≡ false → (x == y) ≡ false
  turned y other = elim (cases_eq x y) [
    | inl e ↦ absurd (true≢false (sym (eq-eqb y x (sym e)) ∙ other))
    | inr d ↦ ne_eqb x y d
  ]

  classes-only : (up : ℕ → List ℕ) → up x ≡ p ∷ [] → (cs : List ℕ) → All (λ c. up c ≡ []) cs → classes_of below cs x ≡ classes_of below cs p
  classes-only up is [] tops = refl
  classes-only up is (c ∷ cs) tops =
      rw (apart c (other (cases_eq x c)), classes-only up is cs (All-tail (λ c. up c ≡ []) c cs tops)) refl where
        other : (x ≡ c) ⊎ (x ≢ c) → (x == c) ≡ false
        other (inl e) = absurd (not-empty p (up c) (All-head (λ c. up c ≡ []) c cs tops) (ap up (sym e) ∙ is))
        other (inr d) = ne_eqb x c d

  given-only : (r c : ℕ) (L : List Grant) → list_any (is_at None x) L ≡ false → list_any (gives below r x c) L ≡ list_any (gives below r p c) L
  given-only r c [] none = refl
  given-only r c (h ∷ L) none = of (h.at == x) refl (given-only r c L) where
    of : (b : Bool) → (h.at == x) ≡ b → (list_any (is_at None x) L ≡ false → list_any (gives below r x c) L ≡ list_any (gives below r p c) L) →
        list_any (gives below r x c) (h ∷ L) ≡ list_any (gives below r p c) (h ∷ L)
    of true e later = absurd (true≢false (rw e at none))
    of false e later = rw (apart h.at (turned h.at e), later (rw e at none)) refl

  all-only : (r : ℕ) (L : List Grant) → list_any (is_at None x) L ≡ false → (cs : List ℕ) →
      list_all (λ c. list_any (gives below r x c) L) cs ≡ list_all (λ c. list_any (gives below r p c) L) cs
  all-only r L none [] = refl
  all-only r L none (c ∷ cs) = rw (given-only r c L none, all-only r L none cs) refl

  user-only : (gs : List Grantee) → list_any (is_grantee x) gs ≡ false → given below x gs ≡ given below p gs
  user-only [] none = refl
  user-only (g ∷ gs) none = of (g.ua == x) refl (user-only gs) where
    of : (b : Bool) → (g.ua == x) ≡ b → (list_any (is_grantee x) gs ≡ false → given below x gs ≡ given below p gs) →
        given below x (g ∷ gs) ≡ given below p (g ∷ gs)
    of true e later = absurd (true≢false (rw e at none))
    of false e later = rw (apart g.ua (turned g.ua e), later (rw e at none)) refl

-- ---- what is held

module _ (relation : Relation) (is_live : ℕ → Bool) (assigned : List (ℕ × ℕ)) (classes : List ℕ)
    (parents : AreParents relation is_live assigned classes) (x p : ℕ) (only : containers assigned x ≡ p ∷ []) where
  -- on an element that has one container, and at which nothing is given itself
  pub held-only : (L : List Grant) → list_any (is_at None x) L ≡ false → (rights : ℕ) →
      IsSetOf (is_held relation.below classes L p) rights → IsSetOf (is_held relation.below classes L x) rights
  held-only L none rights is = set-same rights (is_held relation.below classes L p) (is_held relation.below classes L x) is (λ r.
      sym (all-only relation.below x p (λ y. parents.only x p y only) r L none (classes_of relation.below classes x)
      ∙ ap (λ cs. list_all (λ c. list_any (gives relation.below r p c) L) cs)
      (classes-only relation.below x p (λ y. parents.only x p y only) (containers assigned) only classes parents.tops)))

  -- by a user that has one container, and no associations of its own
  pub privilege-only : (gs : List Grantee) → list_any (is_grantee x) gs ≡ false → (e rights : ℕ) →
      IsSetOf (λ r. privilege relation.below (associations_of gs) classes p r e) rights →
      IsSetOf (λ r. privilege relation.below (associations_of gs) classes x r e) rights
  privilege-only gs none e rights is =
      set-same rights (λ r. privilege relation.below (associations_of gs) classes p r e) (λ r. privilege relation.below (associations_of gs) classes x r e) is (λ r.
      sym (held-privilege relation.below gs classes p e r)
      ∙ ap (λ L. list_all (λ c. list_any (gives relation.below r e c) L) (classes_of relation.below classes e))
      (sym (user-only relation.below x p (λ y. parents.only x p y only) gs none))
      ∙ held-privilege relation.below gs classes x e r)

-- ---- what is known

module _ (Q : ℕ → ℕ → Type 0) where
  -- of each number that is known its rights are such
  abbrev pub AreSuch : List ℕ → List ℕ → Type 0
  AreSuch found known = (e : ℕ) → is_marked known e ≡ true → Q e (get_or found e 0)

  pub learned : (found known known_new : List ℕ) (n rights : ℕ) → n < length found →
      ((e : ℕ) → is_marked known_new e ≡ (is_marked known e || n == e)) → AreSuch found known → Q n rights → AreSuch (set found n rights) known_new
  learned found known known_new n rights fits more such here e marked = elim (cases_eq n e) [
    | inl is ↦ rw (← is, get_or-set_same found n rights 0 fits) here
    | inr apart ↦ rw (get_or-set_other found n e rights 0 (λ is. apart (sym is)))
        (such e (rest (is_marked known e) (sym (more e ∙ ap (λ b. is_marked known e || b) (ne_eqb n e apart)) ∙ marked)))
  ] where
    rest : (b : Bool) → (b || false) ≡ true → b ≡ true
    rest true h = refl
    rest false h = h

-- ---- of one that there is

pub of-one : (P : ℕ → Type 0) (u : ℕ) → P u → ForSome (Some u) P
of-one P u h = λ x is. let same : u ≡ x = cc in subst P same h
