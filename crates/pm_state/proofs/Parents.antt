-- The assignments of a well formed graph, beside its test of containment.
use Rattle.std.proofs.Common.{◌≡◌, ℕ, ◌==◌, ◌||◌, ◌∷◌, Bool, true, false, if◌then◌else◌, List, [], Option, Some, None, is_some, All, Contains, filter, map, refl, sym, ◌∙◌, arith, inl, inr, eq-eqb}
use Rattle.std.proofs.lemmas.Bool.{eqb-true, or_cases, true≢false}
use Rattle.std.proofs.lemmas.List.Elements.{All-cons, All-nil, All-head, All-tail, All-contains, All-contains_itself}
use Rattle.pm_model.specs.Containment.{contained, containers, Leads}
use Rattle.pm_model.specs.Effect.{both, may_assign}
use Rattle.pm_model.specs.Formed.{Each, IsWellFormed, JoinsKinds}
use Rattle.pm_model.specs.State.{Graph, classes_in, element_at, is_class, is_class_kind}
use Rattle.pm_model.specs.declared.elements.Element.{Element}
use Rattle.pm_model.specs.declared.elements.Kind.{Kind}
use Rattle.pm_model.specs.declared.elements.Kind.TheVariants.{User, Ua, Object, Oa, Pc}
use Rattle.pm_model.proofs.ContainmentLaws.{contained-trans, contained-itself, contained-pair, path-from_contained, contained-from_path, contains-containers, containers-contains, containers-no}
use Rattle.pm_laws.proofs.Numbers.{stands-at}
use Rattle.pm_given.specs.Parents.{AreParents}
use Rattle.pm_state.specs.Containing.{relation_in}

-- an element with one container is contained in itself, and in what that container is contained in
module _ (assigned : List (ℕ × ℕ)) (x p y : ℕ) (only : containers assigned x ≡ p ∷ []) where
  is-p : (z : ℕ) → Contains assigned (x, z) → z ≡ p
  is-p z c = All-contains (λ w. w ≡ p) (p ∷ []) z (All-cons (λ w. w ≡ p) p [] refl (All-nil (λ w. w ≡ p))) (rw only at (contains-containers assigned x z c))

  forth : (path : List ℕ) → Leads assigned x path y → (x == y || contained assigned p y) ≡ true
  forth [] h = rw (eq-eqb x y h) refl
  forth (z ∷ rest) h = or_right (x == y) (contained assigned p y) (rw (is-p z h.0) at (contained-from_path assigned z rest y h.1)) where
    or_right : (a b : Bool) → b ≡ true → (a || b) ≡ true
    or_right true b h = refl
    or_right false b h = h

  in-p : contained assigned x p ≡ true
  in-p = contained-pair assigned x p (containers-contains assigned x p (rw only (0, omega arith, refl)))

  back : (x == y || contained assigned p y) ≡ true → contained assigned x y ≡ true
  back h = elim (or_cases (x == y) (contained assigned p y) h) [
    | inl is ↦ rw (eqb-true x y is) (contained-itself assigned y)
    | inr rest ↦ contained-trans assigned x p y in-p rest
  ]

  same_truth : (a b : Bool) → (a ≡ true → b ≡ true) → (b ≡ true → a ≡ true) → a ≡ b
  same_truth true b f g = sym (f refl)
  same_truth false true f g = g refl
  same_truth false false f g = refl

  pub contained-only : contained assigned x y ≡ (x == y || contained assigned p y)
  contained-only = same_truth _ _ (λ h. let path = path-from_contained assigned x y h in forth path.0 path.1) back

-- a class is assigned to nothing
kinds : (k j : Kind) → is_class_kind k ≡ true → may_assign k j ≡ false
kinds Pc j h = refl
kinds User j h = absurd (true≢false (sym h))
kinds Ua j h = absurd (true≢false (sym h))
kinds Object j h = absurd (true≢false (sym h))
kinds Oa j h = absurd (true≢false (sym h))

not-assigned : (e : Element) → is_class e ≡ true → (to : Option Element) → both may_assign (Some e) to ≡ false
not-assigned e is None = refl
not-assigned e is (Some f) = kinds e.kind f.kind is

module _ (es : List Element) where
  top : (e : Element) → element_at es e.number ≡ Some e → is_class e ≡ true → (pairs : List (ℕ × ℕ)) → Each (JoinsKinds es) pairs →
      containers pairs e.number ≡ []
  top e stands is [] h = refl
  top e stands is (pair ∷ pairs) h = of (pair.0 == e.number) refl (top e stands is pairs h.1) where
    of : (b : Bool) → (pair.0 == e.number) ≡ b → containers pairs e.number ≡ [] → containers (pair ∷ pairs) e.number ≡ []
    of true from rest = absurd (true≢false (sym (rw (eqb-true pair.0 e.number from, stands) at h.0) ∙ not-assigned e is (element_at es pair.1)))
    of false apart rest = containers-no pair pairs e.number apart ∙ rest

  tops-in : (pairs : List (ℕ × ℕ)) → Each (JoinsKinds es) pairs → (rest : List Element) → All (λ (e : Element). element_at es e.number ≡ Some e) rest →
      All (λ c. containers pairs c ≡ []) (map (λ (e : Element). e.number) (filter is_class rest))
  tops-in pairs h [] stand = All-nil (λ c. containers pairs c ≡ [])
  tops-in pairs h (e ∷ rest) stand = of (is_class e) refl (tops-in pairs h rest (All-tail (λ (e : Element). element_at es e.number ≡ Some e) e rest stand)) where
    of : (b : Bool) → is_class e ≡ b → All (λ c. containers pairs c ≡ []) (map (λ (e : Element). e.number) (filter is_class rest)) →
        All (λ c. containers pairs c ≡ []) (map (λ (e : Element). e.number) (if b then e ∷ filter is_class rest else filter is_class rest))
    of true is later =
        All-cons (λ c. containers pairs c ≡ []) e.number (map (λ (e : Element). e.number) (filter is_class rest))
        (top e (All-head (λ (e : Element). element_at es e.number ≡ Some e) e rest stand) is pairs h) later
    of false is later = later

pub graph-parents : (G : Graph) → IsWellFormed G →
    AreParents (relation_in G) (λ n. is_some (element_at G.elements n)) G.assigned (classes_in G.elements)
graph-parents G f = record {
  live = λ x. refl;
  only = contained-only G.assigned;
  tops = tops-in G.elements G.assigned f.assigned.kinds G.elements
      (λ k d below. stands-at 0 G.elements _ f.elements.rising (All-contains_itself G.elements k d below));
}
