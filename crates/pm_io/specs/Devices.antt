-- What devices hold, as contracts see them, and how their counts go.
use Rattle.std.specs.Prelude.{◌≡◌, ◌≤◌, ℕ, ◌==◌, ◌&&◌, List, if◌then◌else◌, length, nat_lt, take, Option, None, Result, Ok, Err, IsErr, MatchResult}
use Rattle.std.specs.Io.KnownBytes.{Appends}
use Rattle.pm_model.specs.Causes.{raised}
use Rattle.pm_model.specs.declared.outside.KeepError.{KeepError}
use Rattle.pm_model.specs.declared.outside.KeepError.TheVariants.{Failed, Memory}
use Rattle.pm_model.specs.declared.requests.Entry.{Entry}

-- the count of faults after a read: one more where it failed
abbrev pub faults_read : {E : Type 0} → ℕ → Result ℕ E → ℕ
faults_read count (Ok n) = count
faults_read count (Err e) = raised count

-- the count of faults after a write: one more where it failed, or took none of a piece that isn't empty
abbrev pub faults_written : {E : Type 0} → ℕ → Result ℕ E → List ℕ → ℕ
faults_written count (Ok n) piece = if n == 0 && nat_lt 0 (length piece) then raised count else count
faults_written count (Err e) piece = raised count

-- the count of faults after a keeper's call: one more where it failed
abbrev pub faults_kept : {T : Type 0} → ℕ → Result T KeepError → ℕ
faults_kept count (Ok x) = count
faults_kept count (Err Failed) = raised count
faults_kept count (Err Memory) = count

-- which calls are to fail, by their numbers from 1 on, and how many calls there were
pub record Failures : Type 0 where
  pub failing : List ℕ
  pub calls : ℕ

-- a source in memory
pub record Supply : Type 0 where
  pub left : List ℕ
  pub ends : ℕ

-- the same, where calls may fail
pub record FailingSupply : Type 0 where
  pub left : List ℕ
  pub failures : Failures
  pub faults : ℕ
  pub ends : ℕ

-- a sink in memory: how many bytes it has room for, and those that it took
pub record Intake : Type 0 where
  pub room : ℕ
  pub taken : List ℕ
  pub faults : ℕ

-- the same, where calls may fail
pub record FailingIntake : Type 0 where
  pub room : ℕ
  pub taken : List ℕ
  pub failures : Failures
  pub faults : ℕ

-- a keeper in memory, of which calls may fail
pub record FailingKeeper : Type 0 where
  pub entries : List Entry
  pub failures : Failures
  pub faults : ℕ

-- a link in memory: the most bytes that its next reads give, the numbers of the calls that can do nothing, and how often
-- it failed and a read and a write could do nothing
pub record FailingLink : Type 0 where
  pub left : List ℕ
  pub pieces : List ℕ
  pub room : ℕ
  pub taken : List ℕ
  pub agains : List ℕ
  pub failures : Failures
  pub faults : ℕ
  pub read_agains : ℕ
  pub write_agains : ℕ

-- of a keeper that tells no entries
abbrev pub untold : Option (List Entry)
untold = None

-- an adapter over a reader
pub record CountedReader (R : Type 0) : Type 0 where
  pub inner : R
  pub faults : ℕ
  pub ends : ℕ

-- an adapter over a writer
pub record CountedWriter (W : Type 0) : Type 0 where
  pub inner : W
  pub faults : ℕ

-- an answer is told as it is, but for what an error says
abbrev pub IsTold : {E F : Type 0} → Result ℕ E → Result ℕ F → Type 0
IsTold answer result = MatchResult answer (λ n. result ≡ Ok n) (λ _. IsErr result)

-- known bytes grow by the first bytes of the piece: as many as an Ok says, and some number of them at an Err
abbrev pub TakesFront : {E : Type 0} → Option (List ℕ) → Option (List ℕ) → Result ℕ E → List ℕ → Type 0
TakesFront old new r piece = MatchResult r
    (λ n. Appends old new (take n piece))
    (λ _. (n : ℕ) × (n ≤ length piece) × Appends old new (take n piece))
