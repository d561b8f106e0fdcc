-- What a verdict says, in the standard's words and over any test of containment: the user has the privilege and no
-- prohibition denies the right; or the first class that isn't met; or the first prohibition that denies it.
use Rattle.std.specs.Prelude.{◌≡◌, ◌<◌, ℕ, Bool, true, List, Option, Some, slice_get, All}
use Rattle.std.specs.List.{Any}
use Rattle.pm_model.specs.Decision.{meets, applies_by, covers}
use Rattle.pm_model.specs.declared.prohibitions.Prohibition.{Prohibition}
use Rattle.pm_model.specs.declared.rights.Association.{Association}
use Rattle.pm_decide.specs.declared.verdict.Verdict.{Verdict}
use Rattle.pm_decide.specs.declared.verdict.Verdict.TheVariants.{Granted, NoClass, Prohibited}

-- the item stands at this place of the list, from 0, and fits; none before it does
pub record IsFirst {X : Type 0} (Fits : X → Type 0) (xs : List X) (i : ℕ) (x : X) : Type 0 where
  pub there : slice_get xs i ≡ Some x
  pub fits : Fits x
  pub none_before : (j : ℕ) (y : X) → j < i → slice_get xs j ≡ Some y → Fits y → ⊥

module _ (below : ℕ → ℕ → Bool) where
  -- some association gives u the right r on e in the class pc
  abbrev pub IsGiven : List Association → ℕ → ℕ → ℕ → ℕ → Type 0
  IsGiven associations u r e pc = Any (λ a. meets below u r e pc a ≡ true) associations

  -- in each class that contains e some does
  abbrev pub HasPrivilege : List Association → List ℕ → ℕ → ℕ → ℕ → Type 0
  HasPrivilege associations classes u r e = All (λ pc. below e pc ≡ true → IsGiven associations u r e pc) classes

  -- the class contains e, and none does
  abbrev pub IsUnmet : List Association → ℕ → ℕ → ℕ → ℕ → Type 0
  IsUnmet associations u r e pc = (below e pc ≡ true) × (IsGiven associations u r e pc → ⊥)

  -- the prohibition applies to the user u or the process q, and covers the right r on e
  abbrev pub Denies : ℕ → Option ℕ → ℕ → ℕ → Prohibition → Type 0
  Denies u q r e p = (applies_by below u q p.subject ≡ true) × (covers below r e p ≡ true)

  -- no prohibition does
  abbrev pub IsFree : List Prohibition → ℕ → Option ℕ → ℕ → ℕ → Type 0
  IsFree prohibitions u q r e = All (λ p. Denies u q r e p → ⊥) prohibitions

  -- granted: the privilege, and no prohibition that denies it; a class: the first that isn't met; a prohibition: the
  -- first, in order of creation, that denies the privilege
  abbrev pub Says : List Association → List Prohibition → List ℕ → ℕ → Option ℕ → ℕ → ℕ → Verdict → Type 0
  Says associations prohibitions classes u q r e Granted = HasPrivilege associations classes u r e × IsFree prohibitions u q r e
  Says associations prohibitions classes u q r e (NoClass pc) = (i : ℕ) × IsFirst (IsUnmet associations u r e) classes i pc
  Says associations prohibitions classes u q r e (Prohibited i) =
      HasPrivilege associations classes u r e × (p : Prohibition) × IsFirst (Denies u q r e) prohibitions i p
