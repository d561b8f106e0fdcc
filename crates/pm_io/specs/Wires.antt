-- What a link tells of itself, and what its calls do.
use Rattle.std.specs.Prelude.{ℕ, ◌≡◌, ◌<◌, ◌≤◌, List, length, take, Option}
use Rattle.std.specs.Io.KnownBytes.{Appends, Consumes, Keeps, IsAtEnd}
use Rattle.pm_model.specs.Causes.{Rose}
use Rattle.pm_io.specs.declared.links.LinkRead.{LinkRead}
use Rattle.pm_io.specs.declared.links.LinkRead.TheVariants as read
use Rattle.pm_io.specs.declared.links.LinkWrite.{LinkWrite}
use Rattle.pm_io.specs.declared.links.LinkWrite.TheVariants as write

pub record Wire : Type 0 where
  -- the bytes that are left to be read, and those that it took, where it tells them
  pub left : Option (List ℕ)
  pub taken : Option (List ℕ)
  -- how often it has failed, and how often a read and a write could do nothing
  pub faults : ℕ
  pub read_agains : ℕ
  pub write_agains : ℕ

-- no count has fallen
pub record IsLater (a b : Wire) : Type 0 where
  pub faults : a.faults ≤ b.faults
  pub reads : a.read_agains ≤ b.read_agains
  pub writes : a.write_agains ≤ b.write_agains

-- no count has changed
pub record IsQuiet (a b : Wire) : Type 0 where
  pub faults : b.faults ≡ a.faults
  pub reads : b.read_agains ≡ a.read_agains
  pub writes : b.write_agains ≡ a.write_agains

-- the count of faults has risen, and no other
pub record HasFailed (a b : Wire) : Type 0 where
  pub rose : Rose a.faults b.faults
  pub reads : b.read_agains ≡ a.read_agains
  pub writes : b.write_agains ≡ a.write_agains

-- a read could do nothing, and no other count has risen
pub record HasNoneToRead (a b : Wire) : Type 0 where
  pub rose : Rose a.read_agains b.read_agains
  pub faults : b.faults ≡ a.faults
  pub writes : b.write_agains ≡ a.write_agains

-- a write could do nothing, and no other count has risen
pub record HasNoRoom (a b : Wire) : Type 0 where
  pub rose : Rose a.write_agains b.write_agains
  pub faults : b.faults ≡ a.faults
  pub reads : b.read_agains ≡ a.read_agains

-- some bytes were read, or none
abbrev pub IsRead : Wire → Wire → List ℕ → LinkRead → Type 0
IsRead a b piece (read.Got n) = (0 < n) × (n ≤ length piece) × Consumes a.left b.left (take n piece)
IsRead a b piece read.End = Keeps a.left b.left × IsAtEnd b.left
IsRead a b piece read.Again = Keeps a.left b.left
IsRead a b piece read.Failed = Keeps a.left b.left

-- some bytes were taken, or none
abbrev pub IsWritten : Wire → Wire → List ℕ → LinkWrite → Type 0
IsWritten a b piece (write.Took n) = (0 < n) × (n ≤ length piece) × Appends a.taken b.taken (take n piece)
IsWritten a b piece write.Again = Keeps a.taken b.taken
IsWritten a b piece write.Failed = Keeps a.taken b.taken

-- which count a read raises
abbrev pub ReadCounts : Wire → Wire → LinkRead → Type 0
ReadCounts a b (read.Got n) = IsQuiet a b
ReadCounts a b read.End = IsQuiet a b
ReadCounts a b read.Again = HasNoneToRead a b
ReadCounts a b read.Failed = HasFailed a b

-- which count a write raises
abbrev pub WriteCounts : Wire → Wire → LinkWrite → Type 0
WriteCounts a b (write.Took n) = IsQuiet a b
WriteCounts a b write.Again = HasNoRoom a b
WriteCounts a b write.Failed = HasFailed a b
