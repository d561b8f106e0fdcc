-- What a match may ask about: elements that are live.
use Rattle.std.specs.Prelude.{ℕ, Option, None, Some, IsTrue}
use Rattle.pm_model.specs.Containment.{Relation}
use Rattle.pm_model.specs.declared.events.Event.{Event}
use Rattle.pm_model.specs.declared.events.Pattern.{Pattern}

abbrev pub IsGivenLive : Relation → Option ℕ → Type 0
IsGivenLive relation None = Unit {0}
IsGivenLive relation (Some x) = IsTrue (relation.live x)

-- the user and the target that the pattern gives
pub record IsPatternLive (relation : Relation) (p : Pattern) : Type 0 where
  pub user : IsGivenLive relation p.user
  pub target : IsGivenLive relation p.target

-- who acted, and what it was done to
pub record IsEventLive (relation : Relation) (e : Event) : Type 0 where
  pub user : IsTrue (relation.live e.user)
  pub target : IsTrue (relation.live e.target)
