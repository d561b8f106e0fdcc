-- Why a right is denied. Source: the report's derived privileges and its prohibitions: a user lacks a right on an element
-- where in some policy class that contains it no association gives the right, and where a prohibition covers it. That the
-- first such class, or else the first such prohibition, is told is the project's own.
use Rattle.std.specs.Prelude.{◌≡◌, ℕ, Bool, true, false, not, List, ◌∷◌, ◌++◌, Option, Contains}
use Rattle.pm_model.specs.State.{Graph, root, classes_in}
use Rattle.pm_model.specs.Containment.{contained, IsContained}
use Rattle.pm_model.specs.Decision.{classes_of, meets, is_met, privilege, applies_by, covers, forbids}
use Rattle.pm_model.specs.Authority.{is_administrative}
use Rattle.pm_model.specs.Formed.{Each}
use Rattle.pm_model.specs.declared.prohibitions.Prohibition as prohibition
use Rattle.pm_model.specs.declared.replies.Reason.{Reason}
use Rattle.pm_model.specs.declared.replies.Reason.TheVariants.{Class, Prohibition}

module _ {X : Type 0} where
  -- x passes the test, and none before it in the list does
  abbrev pub IsFirst : (X → Bool) → List X → X → Type 0
  IsFirst test xs x =
      (before : List X) × (after : List X) × (xs ≡ before ++ x ∷ after) × (test x ≡ true) × Each (λ y. test y ≡ false) before

-- pc is a policy class that contains e, and no association gives u the right r on e in it; of all such classes it is the first
pub record LacksIn (G : Graph) (u r e pc : ℕ) : Type 0 where
  pub is_class : Contains (classes_in G.elements) pc
  pub contains : IsContained G.assigned e pc
  pub lacks : Each (λ a. meets (contained G.assigned) u r e pc a ≡ false) G.associations
  pub first : IsFirst (λ c. not (is_met (contained G.assigned) G.associations u r e c)) (classes_of (contained G.assigned) (classes_in G.elements) e) pc

-- a prohibition of this name stands, applies to u or q and covers r on e; of all such prohibitions it is the first, and u
-- would have the privilege without it
pub record IsForbidden (G : Graph) (u : ℕ) (q : Option ℕ) (r e : ℕ) (name : List ℕ) : Type 0 where
  pub prohibition : prohibition.Prohibition
  pub named : prohibition.name ≡ name
  pub stands : Contains G.prohibitions prohibition
  pub applies : applies_by (contained G.assigned) u q prohibition.subject ≡ true
  pub covers : covers (contained G.assigned) r e prohibition ≡ true
  pub first : IsFirst (forbids (contained G.assigned) u q r e) G.prohibitions prohibition
  pub privileged : privilege (contained G.assigned) G.associations (classes_in G.elements) u r e ≡ true

-- the reason holds: it is why the right r on e is denied to u and q
abbrev pub HasCause : Graph → ℕ → Option ℕ → ℕ → ℕ → Reason → Type 0
HasCause G u q r e (Class pc) = LacksIn G u r e pc
HasCause G u q r e (Prohibition name) = IsForbidden G u q r e name

-- root, of an administrative right
abbrev pub IsSpared : ℕ → ℕ → Type 0
IsSpared u r = (u ≡ root) × (is_administrative r ≡ true)
