-- A call that may refuse or lack memory, against what it is to read.
use Rattle.std.specs.Prelude.{◌≡◌, Option, None, Some, Result, Ok, Err, ⊤}
use Rattle.pm_document.specs.declared.errors.DocumentError.{DocumentError}
use Rattle.pm_document.specs.declared.errors.DocumentError.TheVariants.{Refused, Memory}

-- what was read, unless there was no memory
abbrev pub Reads : {A : Type 0} → Result A DocumentError → Option A → Type 0
Reads (Ok a) o = o ≡ Some a
Reads (Err Refused) o = o ≡ None
Reads (Err Memory) o = ⊤
