-- A file in memory at a moment, and what a crash leaves of it. The project's own.
use Rattle.std.specs.Prelude.{◌≡◌, ◌⊎◌, ℕ, List, [], ◌∷◌, ◌++◌}
use Rattle.pm_disk.specs.Disks.{Torn, Cut}
use Rattle.pm_disk.specs.declared.held.Step.{Step}
use Rattle.pm_disk.specs.declared.held.Step.TheVariants as step

-- its bytes; what was synced last; and the calls since that changed it, the first of them first
pub record Moment : Type 0 where
  pub content : List ℕ
  pub synced : List ℕ
  pub steps : List Step

-- a call that a crash may cut short
abbrev pub IsStep : Step → List ℕ → List ℕ → Type 0
IsStep (step.Write at n) old new = Torn at n old new
IsStep (step.Cut n) old new = Cut n old new

-- one after another
abbrev pub Leads : List Step → List ℕ → List ℕ → Type 0
Leads [] from to = to ≡ from
Leads (s ∷ steps) from to = (mid : List ℕ) × IsStep s from mid × Leads steps mid to

-- a crash leaves the content, or what calls that were cut short make of what was synced
abbrev pub MayLeave : Moment → List ℕ → Type 0
MayLeave m c = (c ≡ m.content) ⊎ Leads m.steps m.synced c

-- on to this moment, while the one before is kept; or nowhere, where there is no memory for it
abbrev pub MovesTo : Moment → Moment → List Moment → Moment → List Moment → Type 0
MovesTo next old past new later = ((new ≡ next) × (later ≡ past ++ old ∷ [])) ⊎ ((new ≡ old) × (later ≡ past))

-- a call that fails changes nothing so far, and may be done by a crash
abbrev pub FailsTo : Step → Moment → List Moment → Moment → List Moment → Type 0
FailsTo s old past new later = MovesTo (record { content = old.content; synced = old.synced; steps = old.steps ++ s ∷ [] }) old past new later
