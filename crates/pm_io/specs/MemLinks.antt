-- What the calls of a link in memory do, as it was told.
use Rattle.std.specs.Prelude.{◌≡◌, ◌≤◌, ◌-◌, ℕ, List, [], ◌∷◌, Contains, Some, drop, length, max, min}
use Rattle.pm_model.specs.Causes.{raised}
use Rattle.pm_io.specs.Devices.{FailingLink}
use Rattle.pm_io.specs.Wires.{Wire}
use Rattle.pm_io.specs.declared.links.LinkRead.{LinkRead}
use Rattle.pm_io.specs.declared.links.LinkRead.TheVariants as read
use Rattle.pm_io.specs.declared.links.LinkWrite.{LinkWrite}
use Rattle.pm_io.specs.declared.links.LinkWrite.TheVariants as write

-- what it tells as a link
abbrev pub wire_of : FailingLink → Wire
wire_of l = record { left = Some l.left; taken = Some l.taken; faults = l.faults; read_agains = l.read_agains; write_agains = l.write_agains }

-- this call is to fail, or else is to do nothing
abbrev pub IsToFail : FailingLink → Type 0
IsToFail l = Contains l.failures.failing (raised l.failures.calls)

abbrev pub IsToIdle : FailingLink → Type 0
IsToIdle l = Contains l.agains (raised l.failures.calls) × ¬ IsToFail l

-- a call more was counted, and what was told stays
pub record IsCalled (a b : FailingLink) : Type 0 where
  pub failures : b.failures ≡ record a.failures { calls = raised a.failures.calls }
  pub agains : b.agains ≡ a.agains
  pub room : b.room ≡ a.room

-- how many bytes a read gives at most: as many as the next of the pieces says, but one at least, and then 4,096
abbrev pub piece_most : List ℕ → ℕ
piece_most [] = 4096
piece_most (n ∷ ns) = max n 1

-- a read by what was told
abbrev pub IsReadAsTold : FailingLink → FailingLink → LinkRead → Type 0
IsReadAsTold a b (read.Got n) = (n ≤ piece_most a.pieces) × (b.pieces ≡ drop 1 a.pieces)
IsReadAsTold a b read.End = (a.left ≡ []) × (b.pieces ≡ drop 1 a.pieces)
IsReadAsTold a b read.Again = IsToIdle a × (b.pieces ≡ a.pieces)
IsReadAsTold a b read.Failed = IsToFail a × (b.pieces ≡ a.pieces)

-- a write by what was told; where there is no room it fails
abbrev pub IsWrittenAsTold : FailingLink → FailingLink → List ℕ → LinkWrite → Type 0
IsWrittenAsTold a b piece (write.Took n) = n ≡ min (a.room - length a.taken) (length piece)
IsWrittenAsTold a b piece write.Again = IsToIdle a
IsWrittenAsTold a b piece write.Failed = ¬ IsToFail a → (¬ IsToIdle a) × (a.room ≤ length a.taken)
