-- The assignments, where one comes or goes and where an element comes: one lemma for each change of the lists.
use Rattle.std.proofs.Common.{◌≡◌, ◌<◌, ◌==◌, ℕ, List, [], ◌∷◌, length, not, Some, true, false, refl, arith, filter, Contains, inl, inr}
use Rattle.std.specs.List.{list_any}
use Rattle.std.proofs.lemmas.Bool.{cases_Bool, false_from_ne_true}
use Rattle.pm_model.specs.State.{element, element_at}
use Rattle.pm_model.specs.Containment.{contained}
use Rattle.pm_model.specs.Effect.{placed, with_assignment, is_pair, is_from, may_assign, may_create, max_assignments}
use Rattle.pm_model.specs.Resolve.{unused}
use Rattle.pm_model.specs.Formed.{Each, IsLive, JoinsKinds, IsInClass, AreElements, AreAssigned}
use Rattle.pm_model.specs.declared.elements.Kind.TheVariants.{Pc}
use Rattle.pm_model.specs.declared.elements.Element.{Element}
use Rattle.pm_model.proofs.ContainmentLaws.{contained-itself}
use Rattle.pm_laws.proofs.Added.{added-has, length-added, each-added}
use Rattle.pm_laws.proofs.Items.{each-filter, each-to, each-at, each-from, filter-contains, length-filter, contains-first, contains-rest}
use Rattle.pm_laws.proofs.Numbers.{placed-new, placed-old, placed-cases, live-apart}
use Rattle.pm_laws.proofs.Ends.{both-placed, both-live, joins-live, joins-new}
use Rattle.pm_laws.proofs.Pairs.{pair-is, assigned-is, once-added, once-filter, without, without-keeps, other-container}
use Rattle.pm_laws.proofs.Shape.{IsWithin, HasClass, acyclic-within, acyclic-added, contained-live, class-from, class-within, class-live, class-through, class-kept, classes-to}

pub within-added : (pairs : List (ℕ × ℕ)) (x y : ℕ) → IsWithin pairs (with_assignment (x, y) pairs)
within-added pairs x y a b c = added-has (x, y) pairs (a, b) (contains-rest (x, y) (a, b) pairs c)

pub without-within : (pairs : List (ℕ × ℕ)) (x y : ℕ) → IsWithin (without x y pairs) pairs
without-within pairs x y a b c = (filter-contains (λ pair. not (is_pair x y pair)) pairs (a, b) c).0

pub within-without : (pairs : List (ℕ × ℕ)) (x y : ℕ) → IsWithin pairs ((x, y) ∷ without x y pairs)
within-without pairs x y a b c = elim (cases_Bool (is_pair x y (a, b))) [
  | inl is ↦ rw (pair-is x y (a, b) is) (contains-first (x, y) (without x y pairs))
  | inr other ↦ contains-rest (x, y) (a, b) (without x y pairs) (without-keeps x y pairs (a, b) c other)
]

pub assigned-added : (es : List Element) (pairs : List (ℕ × ℕ)) (x y : ℕ) → AreAssigned es pairs → JoinsKinds es (x, y) →
    list_any (is_pair x y) pairs ≡ false → contained pairs y x ≡ false → length pairs < max_assignments →
    AreAssigned es (with_assignment (x, y) pairs)
assigned-added es pairs x y h fits free apart room = let l = length-added (x, y) pairs in record {
  kinds = each-added (x, y) (JoinsKinds es) pairs h.kinds fits;
  once = once-added pairs x y h.once free;
  acyclic = acyclic-added pairs x y h.acyclic (λ up. cc);
  classes = classes-to es es pairs (with_assignment (x, y) pairs)
      (class-within es es pairs (with_assignment (x, y) pairs) (λ c there. there) (within-added pairs x y)) h.classes;
  few = omega (arith, l, room);
}

pub assigned-without : (es : List Element) (pairs : List (ℕ × ℕ)) (x y : ℕ) → AreAssigned es pairs →
    list_any (is_pair x y) pairs ≡ true → (length (filter (is_from x) pairs) == 1) ≡ false → AreAssigned es (without x y pairs)
assigned-without es pairs x y h stands many = record {
  kinds = each-filter (JoinsKinds es) (λ pair. not (is_pair x y pair)) pairs h.kinds;
  once = once-filter (λ pair. not (is_pair x y pair)) pairs h.once;
  acyclic = acyclic-within fewer pairs (without-within pairs x y) h.acyclic;
  classes = classes-to es es pairs fewer
      (class-kept es pairs fewer x y other.0 h.acyclic (without-within pairs x y) (within-without pairs x y) other.1 of_other) h.classes;
  few = let l = length-filter (λ pair. not (is_pair x y pair)) pairs in omega (arith, l, h.few);
} where
  fewer : List (ℕ × ℕ)
  fewer = without x y pairs

  other : (z : ℕ) × Contains fewer (x, z)
  other = other-container x y pairs h.once stands many

  of_other : HasClass es pairs other.0
  of_other =
      let fits = each-at (JoinsKinds es) pairs (x, other.0) h.kinds (without-within pairs x y x other.0 other.1) in
      class-live es pairs other.0 h.classes (joins-live es x other.0 fits).1

-- the pairs of live elements stay where an element comes
kinds-placed : (es : List Element) (x : Element) (pairs : List (ℕ × ℕ)) → AreElements es → x.number ≡ unused es →
    Each (JoinsKinds es) pairs → Each (JoinsKinds (placed x es)) pairs
kinds-placed es x pairs e u =
    each-to (JoinsKinds es) (JoinsKinds (placed x es)) (λ p fits. both-placed may_assign x es p.0 p.1 e.rising u fits) pairs

-- each is in a class where the new one is
classes-placed : (es : List Element) (x : Element) (pairs more : List (ℕ × ℕ)) → IsWithin pairs more →
    Each (IsInClass es pairs) es → HasClass (placed x es) more x.number → Each (IsInClass (placed x es) more) (placed x es)
classes-placed es x pairs more sub old new =
    each-from (IsInClass (placed x es) more) (placed x es) (λ e c. elim (placed-cases x es e c) [
      | inl same ↦ class-from (placed x es) more e (rw (← same) new)
      | inr there ↦ each-at (IsInClass (placed x es) more) es e kept there
    ]) where
      kept : Each (IsInClass (placed x es) more) es
      kept = classes-to es (placed x es) pairs more (class-within es (placed x es) pairs more (placed-old x es) sub) old

-- a new class
pub assigned-placed : (es : List Element) (x : Element) (pairs : List (ℕ × ℕ)) → AreElements es → x.number ≡ unused es →
    AreAssigned es pairs → x.kind ≡ Pc → AreAssigned (placed x es) pairs
assigned-placed es x pairs e u h class = record {
  kinds = kinds-placed es x pairs e u h.kinds;
  once = h.once;
  acyclic = h.acyclic;
  classes = classes-placed es x pairs pairs (λ a b there. there) h.classes
      (x, placed-new x es, rw class refl, contained-itself pairs x.number);
  few = h.few;
}

-- a new number is in no assignment, and nothing live is contained in it
new-unassigned : (es : List Element) (pairs : List (ℕ × ℕ)) (x y : ℕ) → AreElements es → x ≡ unused es →
    Each (JoinsKinds es) pairs → list_any (is_pair x y) pairs ≡ false
new-unassigned es pairs x y e u kinds = false_from_ne_true (list_any (is_pair x y) pairs) (λ is.
    live-apart es x e.rising (joins-live es x y (each-at (JoinsKinds es) pairs (x, y) kinds (assigned-is pairs x y is))).0 u)

new-empty : (es : List Element) (pairs : List (ℕ × ℕ)) (x y : ℕ) → AreElements es → x ≡ unused es → Each (JoinsKinds es) pairs →
    IsLive es y → contained pairs y x ≡ true → ⊥
new-empty es pairs x y e u kinds live up = live-apart es x e.rising (contained-live es pairs kinds y x up live) u

-- a new element in a container
pub assigned-under : (es : List Element) (x : Element) (pairs : List (ℕ × ℕ)) (c : ℕ) → AreElements es → x.number ≡ unused es →
    AreAssigned es pairs → may_create es x.kind (Some c) ≡ true → length pairs < max_assignments →
    AreAssigned (placed x es) (with_assignment (x.number, c) pairs)
assigned-under es x pairs c e u h may room = let l = length-added (x.number, c) pairs in record {
  kinds = each-added (x.number, c) (JoinsKinds (placed x es)) pairs
      (kinds-placed es x pairs e u h.kinds) (joins-new x es c e.rising u may);
  once = once-added pairs x.number c h.once (new-unassigned es pairs x.number c e u h.kinds);
  acyclic = acyclic-added pairs x.number c h.acyclic (new-empty es pairs x.number c e u h.kinds live);
  classes = classes-placed es x pairs more (within-added pairs x.number c) h.classes
      (class-through (placed x es) more x.number c (added-has (x.number, c) pairs (x.number, c) (contains-first (x.number, c) pairs)) of_container);
  few = omega (arith, l, room);
} where
  more : List (ℕ × ℕ)
  more = with_assignment (x.number, c) pairs

  live : IsLive es c
  live = (both-live may_assign (Some (element 0 x.kind [])) (element_at es c) may).1

  of_container : HasClass (placed x es) more c
  of_container =
      class-within es (placed x es) pairs more (placed-old x es) (within-added pairs x.number c) c
      (class-live es pairs c h.classes live)
