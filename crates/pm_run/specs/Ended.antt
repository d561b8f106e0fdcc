-- How far a run has come, and all that it tells of its end.
use Rattle.std.specs.Prelude.{◌≡◌, ◌≢◌, ◌≤◌, ◌<◌, ◌+◌, ℕ, List, [], length, Option, None}
use Rattle.std.specs.Io.KnownBytes.{Consumes}
use Rattle.pm_model.specs.Causes.{Rose, raised}
use Rattle.pm_model.specs.Lines.{cut}
use Rattle.pm_model.specs.State.{State, opening}
use Rattle.pm_session.specs.Streams.{Streams}
use Rattle.pm_run.specs.Coming.{coming, coming_past}
use Rattle.pm_run.specs.Statuses.{status_number}
use Rattle.pm_run.specs.Ran.{Ran, IsComplete}
use Rattle.pm_run.specs.Wrote.{Wrote}
use Rattle.pm_run.specs.declared.statuses.Status.{Status}
use Rattle.pm_run.specs.declared.statuses.Status.TheVariants.{Done, Usage, ReadFault, WriteFault, Serve, ServeJournal}

-- what was done so far
pub record Running (left rest taken grown : Option (List ℕ)) (S : State) (waiting output : List ℕ) (total : ℕ) : Type 0 where
  pub bytes : List ℕ
  pub consumed : Consumes left rest bytes
  pub wrote : Wrote taken grown opening S (coming bytes) (coming waiting)
  pub drained : cut waiting ≡ None
  pub sent : output ≡ []
  pub count : length bytes ≡ total

-- what is seen of a source and of a sink: the bytes that are left and that were taken, and the counts of the source's faults and
-- ends and of the sink's faults
pub record Sides : Type 0 where
  pub left : Option (List ℕ)
  pub taken : Option (List ℕ)
  pub read_faults : ℕ
  pub ends : ℕ
  pub write_faults : ℕ

-- how a run ended: what was read and written, and which counts have risen
pub record Ended (limit : ℕ) (old new : Sides) (status : Status) : Type 0 where
  pub ran : Ran limit old.left new.left old.taken new.taken status
  pub usage : status ≢ Usage
  pub serve : (port workers : ℕ) → status ≢ Serve port workers
  pub journal : (port workers : ℕ) → status ≢ ServeJournal port workers
  pub number : status_number status ≤ 6
  pub complete : ¬ Rose old.read_faults new.read_faults → ¬ Rose old.write_faults new.write_faults → IsComplete limit old.left status
  pub read : status ≡ ReadFault → Rose old.read_faults new.read_faults
  pub read_kept : status ≢ ReadFault → new.read_faults ≡ old.read_faults
  pub write : status ≡ WriteFault → Rose old.write_faults new.write_faults
  pub write_kept : status ≢ WriteFault → new.write_faults ≡ old.write_faults
  pub end : status ≡ Done → new.ends ≡ raised old.ends
  pub end_kept : status ≢ Done → new.ends ≡ old.ends

-- so ends each run that has come to these sides with no fault and no end, where so many bytes more are within its limit
abbrev pub EndsRun : Sides → Sides → State → Streams → ℕ → Status → Type 0
EndsRun old new S session most status =
    (limit total : ℕ) (left taken : Option (List ℕ)) → Running left old.left taken old.taken S session.waiting session.output total → total + most ≤ limit
    → Ended limit (record { left = left; taken = taken; read_faults = old.read_faults; ends = old.ends; write_faults = old.write_faults }) new status

-- a piece more was read, and its lines were answered
pub record Advanced (old new : Sides) (S T : State) (from to : Streams) (most count : ℕ) : Type 0 where
  pub piece : List ℕ
  pub consumed : Consumes old.left new.left piece
  pub long : length piece ≡ count
  pub some : 0 < count
  pub within : count ≤ most
  pub wrote : Wrote old.taken new.taken S T (coming_past from.waiting piece) (coming to.waiting)
  pub drained : cut to.waiting ≡ None
  pub sent : to.output ≡ []
  pub read : new.read_faults ≡ old.read_faults
  pub unended : new.ends ≡ old.ends
  pub written : new.write_faults ≡ old.write_faults
