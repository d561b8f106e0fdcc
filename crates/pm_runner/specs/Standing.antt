-- Items of a list, told by their places.
use Rattle.std.specs.Prelude.{◌≡◌, ℕ, ◌==◌, Bool, false, List, map, Option, None, Some, All, slice_get, length, take, drop}
use Rattle.std.specs.List.{remove}
use Rattle.pm_model.specs.Containment.{Relation}
use Rattle.pm_model.specs.Obligations.{matches}
use Rattle.pm_model.specs.declared.obligations.Obligation.{Obligation}
use Rattle.pm_model.specs.declared.events.Event.{Event}
use Rattle.pm_pattern.specs.Live.{IsPatternLive}
use Rattle.pm_runner.specs.declared.matched.LastRun.{LastRun}

-- what stands at the places, counted from 0, are these, in this order
abbrev pub StandAt : {X : Type 0} → List X → List ℕ → List X → Type 0
StandAt xs places these = map (slice_get xs) places ≡ map Some these

-- the elements that the patterns give are live
abbrev pub ArePatternsLive : Relation → List Obligation → Type 0
ArePatternsLive relation obligations = All (λ (o : Obligation). IsPatternLive relation o.pattern) obligations

-- the obligation matches the event
abbrev pub is_match : (ℕ → ℕ → Bool) → Event → Obligation → Bool
is_match below event o = matches below o.pattern event

-- the place is the one that is left out
abbrev pub is_at : Option ℕ → ℕ → Bool
is_at None i = false
is_at (Some index) i = index == i

-- the items but the one at the place that is left out
abbrev pub without : {X : Type 0} → Option ℕ → List X → List X
without None xs = xs
without (Some index) xs = remove xs index

-- the run's obligations stand together in the list, where it begins
abbrev pub IsRunOf : List Obligation → LastRun → Type 0
IsRunOf obligations run = run.items.now ≡ take (length run.items.now) (drop run.begin obligations)
