-- A step that is ready to be followed: all memory that it needs is there.
use Rattle.std.specs.Prelude.{◌≡◌, ◌<◌, ◌*◌, ◌⊎◌, ℕ, Bool, true, List, length, Option, Some, None, is_some, ⊤}
use Rattle.pm_search.specs.Marks.{NoneMarked}
use Rattle.pm_reach.specs.Words.{in_row}
use Rattle.pm_reach.specs.Rows.{row_has, has, below}
use Rattle.pm_reach.specs.Changes.{CanFollow}
use Rattle.pm_reach.specs.Passes.{IsRising}
use Rattle.pm_reach.specs.Inside.{IsInside}
use Rattle.pm_reach.specs.Unions.{Cover}
use Rattle.pm_reach.specs.declared.inside.Inside.{Inside}
use Rattle.pm_reach.specs.Table.{Table, IsReady, IsOpen}
use Rattle.pm_reach.specs.NewRows.{new_words, made_below, Fits}
use Rattle.pm_reach.specs.declared.table.NewRow.{NewRow}
use Rattle.pm_reach.specs.declared.step.Step.{Step}
use Rattle.pm_reach.specs.declared.step.Step.TheVariants as step
use Rattle.pm_reach.specs.declared.ready.Ready.{Ready}
use Rattle.pm_reach.specs.declared.ready.Ready.TheVariants as ready

pub record MakeReady (t : Table) (x : ℕ) (into : Option ℕ) (row : NewRow) : Type 0 where
  pub fits : Fits t x row
  pub there : is_some (new_words x row) ≡ true
  pub words : (q : ℕ) → row_has (new_words x row) q ≡ made_below t.rows x into q

pub record AssignReady (t : Table) (inside : Inside) (y : ℕ) (other : List ℕ) : Type 0 where
  pub found : IsInside t.rows inside
  pub rows : (z : ℕ) → below t.rows z inside.of ≡ true → IsReady t z (length other)
  pub same : (q : ℕ) → in_row other q ≡ below t.rows y q

pub record DeassignReady (t : Table) (inside : Inside) (marks : List Bool) (queue row : List ℕ) : Type 0 where
  pub found : IsInside t.rows inside
  pub rows : (z : ℕ) → below t.rows z inside.of ≡ true → IsReady t z 0
  pub none : NoneMarked marks
  -- a search has room for all, where there may be one
  pub fits : IsRising t.rows inside.of ⊎ ((w : ℕ) → has t.rows w ≡ true → w < length marks)
  pub as_long : length queue ≡ length marks
  pub wide : (w : ℕ) → has t.rows w ≡ true → w < 64 * length row

abbrev pub step_of : Ready → Step
step_of (ready.Make x into row) = step.Make x into
step_of (ready.Assign inside y other) = step.Assign inside.of y
step_of (ready.Deassign inside y marks queue row) = step.Deassign inside.of y
step_of (ready.Remove x) = step.Remove x

-- the memory for the step is there
abbrev pub IsTaken : Table → Ready → Type 0
IsTaken t (ready.Make x into row) = MakeReady t x into row
IsTaken t (ready.Assign inside y other) = AssignReady t inside y other.items
IsTaken t (ready.Deassign inside y marks queue row) = DeassignReady t inside marks.items queue.items row.items
IsTaken t (ready.Remove x) = IsOpen t x

-- the set of containers has already what the step assigns to
abbrev pub Holds : List ℕ → Step → Type 0
Holds containers (step.Make x None) = ⊤
Holds containers (step.Make x (Some y)) = in_row containers y ≡ true
Holds containers (step.Assign x y) = in_row containers y ≡ true
Holds containers (step.Deassign x y) = ⊤
Holds containers (step.Remove x) = ⊤

-- where a step is ready, rows can follow it, the memory for it is there, and the unions and the set of containers
-- have what it brings
abbrev pub IsPrepared : Table → List (List (Option (List ℕ))) → List ℕ → Option Ready → Type 0
IsPrepared t unions containers None = ⊤
IsPrepared t unions containers (Some r) = CanFollow t.rows (step_of r) × IsTaken t r × Cover unions t.rows (step_of r) × Holds containers (step_of r)
