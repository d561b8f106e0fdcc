-- Those that respond, by their places in a list of obligations.
use Rattle.std.specs.Prelude.{ℕ, ◌<◌, Bool, List, [], ◌∷◌, length, Option, None, Some, slice_get, All, Contains}
use Rattle.pm_model.specs.State.{Graph}
use Rattle.pm_model.specs.declared.obligations.Obligation.{Obligation}
use Rattle.pm_model.specs.declared.requests.Change.{Change}
use Rattle.pm_model.specs.declared.requests.Change.TheVariants as change
use Rattle.pm_state.specs.Drafted.{Drafted}
use Rattle.pm_runner.specs.Standing.{StandAt}
use Rattle.pm_runner.specs.Turns.{Occasion}

-- before the others, where there is one
abbrev pub before : {X : Type 0} → Option X → List X → List X
before None others = others
before (Some x) others = x ∷ others

-- what stands at the places
abbrev pub items_at : {X : Type 0} → List X → List ℕ → List X
items_at xs [] = []
items_at xs (place ∷ places) = before (slice_get xs place) (items_at xs places)

-- the obligations at the places are there, and the graph has them
pub record AreResponders (obligations : List Obligation) (places : List ℕ) (G : Graph) : Type 0 where
  pub at : StandAt obligations places (items_at obligations places)
  pub below : All (λ place. place < length obligations) places
  pub stand : (o : Obligation) → Contains (items_at obligations places) o → Contains G.obligations o

-- the place of the obligation that a change takes away
abbrev pub withdrawn : Change → Option ℕ
withdrawn (change.Withdraw i) = Some i
withdrawn _ = None

-- what is responded to, the draft as it is now, and whether memory was wanting for an action
pub record Underway : Type 0 where
  pub occasion : Occasion
  pub draft : Drafted
  pub short : Bool
