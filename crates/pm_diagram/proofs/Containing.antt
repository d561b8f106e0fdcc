-- What containment becomes where an assignment or an element comes or goes.
use Rattle.std.proofs.Common.{◌≡◌, ◌==◌, ◌∙◌, ℕ, List, [], ◌∷◌, true, false, refl, inl, inr, subst, eq-eqb, Contains}
use Rattle.std.specs.Cmp.{both_ways}
use Rattle.std.specs.List.{list_any}
use Rattle.std.proofs.lemmas.Bool.{cases_eq, eqb-true, false_from_ne_true, ne_eqb}
use Rattle.pm_model.specs.Containment.{contained, Leads, IsContained}
use Rattle.pm_model.specs.Effect.{with_assignment, is_pair, has_child}
use Rattle.pm_model.specs.Formed.{Each, IsLive}
use Rattle.pm_model.specs.declared.elements.Element.{Element}
use Rattle.pm_model.proofs.ContainmentLaws.{contained-cases, contained-from_path, contained-itself, contained-more, contained-pair, contained-trans, path-from_contained}
use Rattle.pm_laws.proofs.Added.{added-has, has-added}
use Rattle.pm_laws.proofs.Assigned.{within-without, without-within}
use Rattle.pm_laws.proofs.Deleted.{left_pairs, leads-left, pairs-within}
use Rattle.pm_laws.proofs.Items.{contains-cases, each-at}
use Rattle.pm_laws.proofs.Pairs.{assigned-is, without, without-keeps}
use Rattle.pm_laws.proofs.Shape.{IsWithin, contained-within}
use Rattle.pm_diagram.specs.Drawn.{JoinsLive}

-- ---- lists with the same assignments

pub contained-same : (assigned other : List (ℕ × ℕ)) → IsWithin assigned other → IsWithin other assigned → (p q : ℕ) →
    contained assigned p q ≡ contained other p q
contained-same assigned other there back p q =
    both_ways (contained assigned p q) (contained other p q) (contained-within assigned other there p q) (contained-within other assigned back p q)

-- an assignment at its place is as in front
pub contained-added : (assigned : List (ℕ × ℕ)) (x y p q : ℕ) →
    contained (with_assignment (x, y) assigned) p q ≡ contained ((x, y) ∷ assigned) p q
contained-added assigned x y =
    contained-same (with_assignment (x, y) assigned) ((x, y) ∷ assigned) (λ a b. has-added (x, y) assigned (a, b)) (λ a b. added-has (x, y) assigned (a, b))

-- one that stands may be taken out and put in front
pub contained-without : (assigned : List (ℕ × ℕ)) (x y : ℕ) → list_any (is_pair x y) assigned ≡ true → (p q : ℕ) →
    contained ((x, y) ∷ without x y assigned) p q ≡ contained assigned p q
contained-without assigned x y stands =
    contained-same ((x, y) ∷ without x y assigned) assigned
    (λ a b c. elim (contains-cases (x, y) (a, b) (without x y assigned) c) [
      | inl same ↦ rw (← same) (assigned-is assigned x y stands)
      | inr below ↦ without-within assigned x y a b below
    ])
    (within-without assigned x y)

-- ---- what isn't live

-- containment leads from live elements to live ones
pub leads-live : (es : List Element) (assigned : List (ℕ × ℕ)) → Each (JoinsLive es) assigned → (x : ℕ) (path : List ℕ) (y : ℕ) →
    Leads assigned x path y → IsLive es x → IsLive es y
leads-live es assigned joined x [] y l live = subst (IsLive es) l live
leads-live es assigned joined x (z ∷ rest) y l live =
    leads-live es assigned joined z rest y l.1 (each-at (JoinsLive es) assigned (x, z) joined l.0).1

-- so none leads from a live element to another
pub contained-fresh : (es : List Element) (assigned : List (ℕ × ℕ)) → Each (JoinsLive es) assigned → (x p : ℕ) → (IsLive es x → ⊥) →
    IsLive es p → contained assigned p x ≡ false
contained-fresh es assigned joined x p fresh live = false_from_ne_true (contained assigned p x) (λ up.
    let path : IsContained assigned p x = path-from_contained assigned p x up in
    fresh (leads-live es assigned joined p path.0 x path.1 live))

-- and what isn't live is contained in itself alone
pub contained-alone : (es : List Element) (assigned : List (ℕ × ℕ)) → Each (JoinsLive es) assigned → (x : ℕ) → (IsLive es x → ⊥) → (q : ℕ) →
    contained assigned x q ≡ (x == q)
contained-alone es assigned joined x fresh q =
    both_ways (contained assigned x q) (x == q)
    (λ up. let path : IsContained assigned x q = path-from_contained assigned x q up in eq-eqb x q (of path.0 path.1))
    (λ same. rw (eqb-true x q same) (contained-itself assigned q)) where
      of : (path : List ℕ) → Leads assigned x path q → x ≡ q
      of [] l = l
      of (z ∷ rest) l = absurd (fresh (each-at (JoinsLive es) assigned (x, z) joined l.0).0)

-- ---- an element to which nothing is assigned

pub contained-childless : (assigned : List (ℕ × ℕ)) (x p : ℕ) → has_child assigned x ≡ false → contained assigned p x ≡ true → p ≡ x
contained-childless assigned x p none up =
    let path : IsContained assigned p x = path-from_contained assigned p x up in
    elim (cases_eq p x) [
      | inl same ↦ same
      | inr other ↦ absurd ((leads-left x assigned none p path.0 x other path.1).1 refl)
    ]

-- once it has gone, the others are contained as before
pub contained-left : (assigned : List (ℕ × ℕ)) (x p q : ℕ) → has_child assigned x ≡ false → (p ≡ x → ⊥) →
    contained assigned p q ≡ contained (left_pairs x assigned) p q
contained-left assigned x p q none other =
    both_ways (contained assigned p q) (contained (left_pairs x assigned) p q)
    (λ up.
    let path : IsContained assigned p q = path-from_contained assigned p q up in
    contained-from_path (left_pairs x assigned) p path.0 q (leads-left x assigned none p path.0 q other path.1).0)
    (contained-within (left_pairs x assigned) assigned (pairs-within x assigned) p q)

-- ---- an assignment that adds nothing

-- what is contained in y may be assigned to it as well
pub contained-again : (assigned : List (ℕ × ℕ)) (x y : ℕ) → contained assigned x y ≡ true → (p q : ℕ) →
    contained ((x, y) ∷ assigned) p q ≡ contained assigned p q
contained-again assigned x y up p q =
    both_ways (contained ((x, y) ∷ assigned) p q) (contained assigned p q)
    (λ h. elim (contained-cases (x, y) assigned p q h) [
      | inl there ↦ there
      | inr new ↦ contained-trans assigned p x q new.0 (contained-trans assigned x y q up new.1)
    ])
    (contained-more (x, y) assigned p q)

-- it is beside the assignment where another container of x is, in which x and no cycle is
pub contained-beside : (assigned : List (ℕ × ℕ)) (x y other : ℕ) → list_any (is_pair x y) assigned ≡ true → Contains assigned (x, other) → (other ≡ y → ⊥) →
    contained assigned other y ≡ true → (contained assigned other x ≡ true → ⊥) → contained (without x y assigned) x y ≡ true
contained-beside assigned x y other stands held apart up alone =
    let less = without x y assigned in
    let kept : Contains less (x, other) = without-keeps x y assigned (x, other) held (ne-pair x y other apart) in
    elim (contained-cases (x, y) less other y (contained-without assigned x y stands other y ∙ up)) [
      | inl there ↦ contained-trans less x other y (contained-pair less x other kept) there
      | inr through ↦ absurd (alone (contained-within less assigned (without-within assigned x y) other x through.0))
    ] where
      ne-pair : (x y other : ℕ) → (other ≡ y → ⊥) → is_pair x y (x, other) ≡ false
      ne-pair x y other apart = rw (eq-eqb x x refl, ne_eqb other y apart) refl
