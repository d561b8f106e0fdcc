-- What a call wrote, of the replies to lines that are coming, and what stands in an output meanwhile.
use Rattle.std.specs.Prelude.{◌≡◌, ◌≤◌, ◌+◌, ℕ, List, ◌++◌, length, Option}
use Rattle.std.specs.Io.KnownBytes.{Appends}
use Rattle.pm_model.specs.State.{State}
use Rattle.pm_model.specs.Lines.{Event}
use Rattle.pm_model.specs.Solo.{replies}
use Rattle.pm_run.specs.Coming.{state_past, longest_reply}
use Rattle.pm_run.specs.Fronts.{IsProperFront}

-- the replies to some first lines, whatever comes behind; from then on, `to` is coming where `from` was
pub record Wrote (before now : Option (List ℕ)) (S T : State) (from to : List ℕ → List Event) : Type 0 where
  pub lines : List Event
  pub appended : Appends before now (replies S lines)
  pub state : T ≡ state_past S lines
  pub told : (more : List ℕ) → from more ≡ lines ++ to more

-- the same, whatever lines are left: the state is the one after those that were replied to
abbrev pub WroteWhole : Option (List ℕ) → Option (List ℕ) → State → State → (List ℕ → List Event) → Type 0
WroteWhole before now S T from = (rest : List ℕ → List Event) × Wrote before now S T from rest

-- a front of what was to be written, with something missing
pub record WrotePart (before now : Option (List ℕ)) (due : List ℕ → List ℕ) : Type 0 where
  pub written : List ℕ
  pub appended : Appends before now written
  pub told : (more : List ℕ) → IsProperFront written (due more)

-- ---- with an output between

-- the front of the output was written, and this is left of it
pub record Moved (before now : Option (List ℕ)) (output left : List ℕ) : Type 0 where
  pub written : List ℕ
  pub appended : Appends before now written
  pub split : output ≡ written ++ left

-- as in Wrote, of what was written and of what stands in the output behind it, together; the output has at most 16,384 bytes
-- and one reply
pub record Answered (before now : Option (List ℕ)) (output : List ℕ) (S T : State) (from to : List ℕ → List Event) : Type 0 where
  pub lines : List Event
  pub written : List ℕ
  pub appended : Appends before now written
  pub together : written ++ output ≡ replies S lines
  pub short : length output ≤ 16384 + longest_reply S lines
  pub state : T ≡ state_past S lines
  pub told : (more : List ℕ) → from more ≡ lines ++ to more

-- the same, whatever lines are left
abbrev pub AnsweredWhole : Option (List ℕ) → Option (List ℕ) → List ℕ → State → State → (List ℕ → List Event) → Type 0
AnsweredWhole before now output S T from = (rest : List ℕ → List Event) × Answered before now output S T from rest
