-- What a link answers over a stream that doesn't wait.
use Rattle.std.specs.Prelude.{ℕ, ◌≡◌, ◌==◌, Bool, true, false, if◌then◌else◌, List, None, Result, Ok, Err}
use Rattle.std.specs.IoError.{error_kind}
use Rattle.std.specs.declared.io.Error.{Error}
use Rattle.std.specs.declared.io.ErrorKind.{ErrorKind}
use Rattle.std.specs.declared.io.ErrorKind.TheVariants.{WouldBlock}
use Rattle.pm_model.specs.Causes.{raised}
use Rattle.pm_io.specs.Wires.{Wire}
use Rattle.pm_io.specs.declared.links.LinkRead.{LinkRead}
use Rattle.pm_io.specs.declared.links.LinkRead.TheVariants as read
use Rattle.pm_io.specs.declared.links.LinkWrite.{LinkWrite}
use Rattle.pm_io.specs.declared.links.LinkWrite.TheVariants as write

-- a stream, and the counts of the link over it
pub record Streamed (S : Type 0) : Type 0 where
  pub stream : S
  pub faults : ℕ
  pub read_agains : ℕ
  pub write_agains : ℕ

-- what it tells as a link: no content, which is the system's
abbrev pub wire_over : {S : Type 0} → Streamed S → Wire
wire_over l = record { left = None; taken = None; faults = l.faults; read_agains = l.read_agains; write_agains = l.write_agains }

abbrev pub is_wait : ErrorKind → Bool
is_wait WouldBlock = true
is_wait _ = false

-- what a read comes to, by the stream's answer to it
abbrev pub read_of : Result ℕ Error → LinkRead
read_of (Ok n) = if n == 0 then read.End else read.Got n
read_of (Err e) = if is_wait (error_kind e) then read.Again else read.Failed

-- what a write comes to: that none was taken is a fault
abbrev pub write_of : Result ℕ Error → LinkWrite
write_of (Ok n) = if n == 0 then write.Failed else write.Took n
write_of (Err e) = if is_wait (error_kind e) then write.Again else write.Failed

-- the counts after what a read comes to, and a write
abbrev pub read_counted : {S : Type 0} → Streamed S → LinkRead → Streamed S
read_counted l (read.Got n) = l
read_counted l read.End = l
read_counted l read.Again = record l { read_agains = raised l.read_agains }
read_counted l read.Failed = record l { faults = raised l.faults }

abbrev pub write_counted : {S : Type 0} → Streamed S → LinkWrite → Streamed S
write_counted l (write.Took n) = l
write_counted l write.Again = record l { write_agains = raised l.write_agains }
write_counted l write.Failed = record l { faults = raised l.faults }

-- the stream was read once, to the whole piece, and its answer is what the link answers
pub record ReadsOnce {S : Type 0} (reads : S → S → ℕ → List ℕ → Result ℕ Error → Type 0) (a b : Streamed S) (room : ℕ) (piece : List ℕ) (result : LinkRead) : Type 0 where
  pub answer : Result ℕ Error
  pub read : reads a.stream b.stream room piece answer
  pub told : result ≡ read_of answer
  pub counted : b ≡ read_counted (record a { stream = b.stream }) result

-- the stream was written to once, the whole piece
pub record WritesOnce {S : Type 0} (writes : S → S → List ℕ → Result ℕ Error → Type 0) (a b : Streamed S) (piece : List ℕ) (result : LinkWrite) : Type 0 where
  pub answer : Result ℕ Error
  pub written : writes a.stream b.stream piece answer
  pub told : result ≡ write_of answer
  pub counted : b ≡ write_counted (record a { stream = b.stream }) result
