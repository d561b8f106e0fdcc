-- What the changes of a graph make of the rows.
use Rattle.std.specs.Prelude.{◌≡◌, ◌<◌, ℕ, true, false, not, ◌||◌, ◌&&◌, ◌==◌, List, Option, Some, None}
use Rattle.pm_model.specs.Containment.{contained}
use Rattle.pm_reach.specs.Rows.{place_at, has, below, most}
use Rattle.pm_reach.specs.declared.step.Step.{Step}
use Rattle.pm_reach.specs.declared.step.Step.TheVariants as step

-- the rows tell the containment that these assignments make
abbrev pub TellContainment : List (ℕ × ℕ) → List (List (Option (List ℕ))) → Type 0
TellContainment assigned rows = (p q : ℕ) → has rows p ≡ true → below rows p q ≡ contained assigned p q

-- the rows of what isn't contained in x are as they were
abbrev pub KeepsOutside : ℕ → List (List (Option (List ℕ))) → List (List (Option (List ℕ))) → Type 0
KeepsOutside x old new = (p : ℕ) → below old p x ≡ false → place_at new p ≡ place_at old p

-- x has a row, with itself alone
pub record Adds (x : ℕ) (old new : List (List (Option (List ℕ)))) : Type 0 where
  pub live : (p : ℕ) → has new p ≡ (p == x || has old p)
  pub related : (p q : ℕ) → below new p q ≡ (below old p q || (p == x && q == x))

-- x has a row, with itself and what the row of y has
pub record Creates (x y : ℕ) (old new : List (List (Option (List ℕ)))) : Type 0 where
  pub live : (p : ℕ) → has new p ≡ (p == x || has old p)
  pub related : (p q : ℕ) → below new p q ≡ (below old p q || (p == x && (q == x || below old y q)))

-- x was made, and assigned to the container where there is one
abbrev pub Makes : ℕ → Option ℕ → List (List (Option (List ℕ))) → List (List (Option (List ℕ))) → Type 0
Makes x None = Adds x
Makes x (Some y) = Creates x y

-- x was assigned to y
pub record Assigns (x y : ℕ) (old new : List (List (Option (List ℕ)))) : Type 0 where
  pub live : (p : ℕ) → has new p ≡ has old p
  pub related : (p q : ℕ) → below new p q ≡ (below old p q || (below old p x && below old y q))
  pub outside : KeepsOutside x old new

-- an assignment of x was taken away, and these are left
pub record Deassigns (x : ℕ) (assigned : List (ℕ × ℕ)) (old new : List (List (Option (List ℕ)))) : Type 0 where
  pub live : (p : ℕ) → has new p ≡ has old p
  pub related : TellContainment assigned new
  pub outside : KeepsOutside x old new

-- x has no row any more
pub record Removes (x : ℕ) (old new : List (List (Option (List ℕ)))) : Type 0 where
  pub live : (p : ℕ) → has new p ≡ (not (p == x) && has old p)
  pub related : (p q : ℕ) → below new p q ≡ (not (p == x) && below old p q)

-- rows can follow the step
abbrev pub CanFollow : List (List (Option (List ℕ))) → Step → Type 0
CanFollow rows (step.Make x None) = (has rows x ≡ false) × (x < most)
CanFollow rows (step.Make x (Some y)) = (has rows x ≡ false) × (x < most) × (has rows y ≡ true)
CanFollow rows (step.Assign x y) = (has rows x ≡ true) × (has rows y ≡ true) × (below rows y x ≡ false)
CanFollow rows (step.Deassign x y) = has rows x ≡ true
CanFollow rows (step.Remove x) = (has rows x ≡ true) × ((p : ℕ) → below rows p x ≡ true → p ≡ x)
