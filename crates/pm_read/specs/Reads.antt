-- A reading that may lack memory, against what the line asks.
use Rattle.std.specs.Prelude.{◌≡◌, Option, None, Some, Result, Ok, Err, IsSome, ⊤}
use Rattle.pm_model.specs.declared.lines.BadLine.{BadLine}
use Rattle.pm_read.specs.declared.errors.ReadError.{ReadError}
use Rattle.pm_read.specs.declared.errors.ReadError.TheVariants.{Bad, Memory}

-- what was read, unless there was no memory
abbrev pub Reads : {A : Type 0} → Result A ReadError → Result A BadLine → Type 0
Reads (Ok a) r = r ≡ Ok a
Reads (Err (Bad bad)) r = r ≡ Err bad
Reads (Err Memory) r = ⊤

abbrev pub ReadsRow : {A : Type 0} → Option (Result A ReadError) → Option (Result A BadLine) → Type 0
ReadsRow None o = o ≡ None
ReadsRow (Some (Ok a)) o = o ≡ Some (Ok a)
ReadsRow (Some (Err (Bad bad))) o = o ≡ Some (Err bad)
ReadsRow (Some (Err Memory)) o = IsSome o
