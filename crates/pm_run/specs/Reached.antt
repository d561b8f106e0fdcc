-- Where a run that came to the end of its source leaves its machine.
use Rattle.std.specs.Prelude.{◌≡◌, ◌<◌, ℕ, List, [], length, Option}
use Rattle.std.specs.Io.KnownBytes.{Consumes, IsAtEnd}
use Rattle.pm_model.specs.Lines.{events}
use Rattle.pm_model.specs.State.{State, opening}
use Rattle.pm_run.specs.Coming.{state_past}

-- these bytes were all that the source had, and the state is the one after their lines
pub record Reached (limit : ℕ) (left rest : Option (List ℕ)) (S : State) : Type 0 where
  pub bytes : List ℕ
  pub consumed : Consumes left rest bytes
  pub at_end : IsAtEnd rest
  pub short : length bytes < limit
  pub state : S ≡ state_past opening (events bytes)

-- the end of the source was read, and no line was answered
pub record AtEnd (left rest : Option (List ℕ)) (S T : State) : Type 0 where
  pub nothing : Consumes left rest []
  pub at_end : IsAtEnd rest
  pub same : T ≡ S
