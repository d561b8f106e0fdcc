-- What a judge may be asked about: elements that are live.
use Rattle.std.specs.Prelude.{ℕ, List, IsTrue, All}
use Rattle.pm_model.specs.Decision.{Judgement}

abbrev pub IsLive : Judgement → ℕ → Type 0
IsLive judgement x = IsTrue (judgement.live x)

abbrev pub AllLive : Judgement → List ℕ → Type 0
AllLive judgement xs = All (IsLive judgement) xs
