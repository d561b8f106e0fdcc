-- What may be asked about: elements that are live.
use Rattle.std.specs.Prelude.{ℕ, List, IsTrue, All}
use Rattle.pm_model.specs.Containment.{Relation}
use Rattle.pm_model.specs.Decision.{Judgement}
use Rattle.pm_decide.specs.Live.{IsLive, AllLive, NamesLive}
use Rattle.pm_affect.specs.declared.region.Region.{Region}
use Rattle.pm_affect.specs.declared.region.Region.TheVariants.{Nothing, One, Under, Between, Barred}

-- what the region names is live, but for an element that was made or is gone
abbrev pub RegionLive : Relation → Region → Type 0
RegionLive relation Nothing = Unit {0}
RegionLive relation (One x) = Unit {0}
RegionLive relation (Under x) = IsLive relation x
RegionLive relation (Between ua at) = IsLive relation ua × IsLive relation at
RegionLive relation (Barred p) = NamesLive relation p

-- the judge may be asked about them
abbrev pub IsJudged : Judgement → ℕ → Type 0
IsJudged judgement x = IsTrue (judgement.live x)

abbrev pub AreJudged : Judgement → List ℕ → Type 0
AreJudged judgement xs = All (IsJudged judgement) xs

-- and so may the search
pub record AreAsked (relation : Relation) (judgement : Judgement) (xs : List ℕ) : Type 0 where
  pub search : AllLive relation xs
  pub judge : AreJudged judgement xs
