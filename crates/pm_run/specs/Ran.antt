-- What a whole run did.
use Rattle.std.specs.Prelude.{◌≡◌, ◌≢◌, ◌≤◌, ◌↔◌, ℕ, List, [], length, take, Option, IfSome}
use Rattle.std.specs.Io.KnownBytes.{Appends, Consumes, IsAtEnd}
use Rattle.pm_model.specs.State.{opening}
use Rattle.pm_model.specs.Lines.{events}
use Rattle.pm_model.specs.Solo.{solo, replies}
use Rattle.pm_run.specs.Fronts.{IsProperFront}
use Rattle.pm_run.specs.Statuses.{ending}
use Rattle.pm_run.specs.declared.statuses.Status.{Status}
use Rattle.pm_run.specs.declared.statuses.Status.TheVariants.{Done, Usage, ReadFault, WriteFault, Memory, TooMuch, Serve, ServeJournal}

-- the whole replies to the first lines of the bytes, for some number of them
pub record AreWholeReplies (written bytes : List ℕ) : Type 0 where
  pub count : ℕ
  pub within : count ≤ length (events bytes)
  pub split : written ≡ replies opening (take count (events bytes))

-- what was written, by the status, where these bytes were taken; there is no other
abbrev pub IsDue : Status → List ℕ → List ℕ → Type 0
IsDue Done bytes written = written ≡ solo bytes
IsDue Usage bytes written = (bytes ≡ []) × (written ≡ [])
IsDue ReadFault bytes written = written ≡ solo bytes
IsDue WriteFault bytes written = IsProperFront written (solo bytes)
IsDue Memory bytes written = AreWholeReplies written bytes
IsDue TooMuch bytes written = written ≡ solo bytes
IsDue (Serve port workers) bytes written = (bytes ≡ []) × (written ≡ [])
IsDue (ServeJournal port workers) bytes written = (bytes ≡ []) × (written ≡ [])
IsDue _ bytes written = ⊥

pub record Ran (limit : ℕ) (left rest taken grown : Option (List ℕ)) (status : Status) : Type 0 where
  -- what was taken from the source, and what `out` took
  pub bytes : List ℕ
  pub written : List ℕ
  pub consumed : Consumes left rest bytes
  pub appended : Appends taken grown written
  pub due : IsDue status bytes written
  -- Done leaves nothing in the source
  pub at_end : status ≡ Done → IsAtEnd rest
  -- TooMuch comes exactly at the limit, once its whole lines are answered; it yields to want of memory
  pub within : length bytes ≤ limit
  pub at_limit : status ≢ Memory → (status ≡ TooMuch) ↔ ((length bytes ≡ limit) × (written ≡ solo bytes))

-- where the source tells what it has, a run in which nothing fails ends so, or for want of memory
abbrev pub IsComplete : ℕ → Option (List ℕ) → Status → Type 0
IsComplete limit left status = IfSome left (λ input. status ≢ Memory → status ≡ ending limit input)
