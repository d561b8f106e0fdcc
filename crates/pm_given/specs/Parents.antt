-- What elements are assigned to, beside the test of containment that follows from it.
use Rattle.std.specs.Prelude.{◌≡◌, ℕ, Bool, ◌==◌, ◌||◌, List, [], ◌∷◌, All}
use Rattle.pm_model.specs.Containment.{Relation, containers}

-- these are the assignments of the containment, and classes are assigned to nothing: what has one container is contained in
-- itself, and in what that container is contained in
pub record AreParents (relation : Relation) (is_live : ℕ → Bool) (assigned : List (ℕ × ℕ)) (classes : List ℕ) : Type 0 where
  pub live : (x : ℕ) → is_live x ≡ relation.live x
  pub only : (x p y : ℕ) → containers assigned x ≡ p ∷ [] → relation.below x y ≡ (x == y || relation.below p y)
  pub tops : All (λ c. containers assigned c ≡ []) classes
