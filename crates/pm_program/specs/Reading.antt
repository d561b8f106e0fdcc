-- What is read of a source.
use Rattle.std.specs.Prelude.{◌≡◌, ◌≤◌, ◌<◌, ◌⊎◌, ℕ, List, ◌++◌, length, Option}
use Rattle.std.specs.Io.KnownBytes.{Consumes, IsAtEnd, Keeps}
use Rattle.pm_model.specs.Causes.{Rose, raised}
use Rattle.pm_run.specs.declared.statuses.Status.{Status}
use Rattle.pm_run.specs.declared.statuses.Status.TheVariants.{ReadFault, Memory}

-- what is seen of a source
pub record Seen : Type 0 where
  pub left : Option (List ℕ)
  pub faults : ℕ
  pub ends : ℕ

-- these bytes were taken, with no fault and no end
pub record Took (old new : Seen) (bytes : List ℕ) : Type 0 where
  pub consumed : Consumes old.left new.left bytes
  pub kept : new.faults ≡ old.faults
  pub unended : new.ends ≡ old.ends

-- these are all that there were, fewer than the limit
pub record TookAll (limit : ℕ) (old new : Seen) (bytes : List ℕ) : Type 0 where
  pub consumed : Consumes old.left new.left bytes
  pub kept : new.faults ≡ old.faults
  pub ended : new.ends ≡ raised old.ends
  pub at_end : IsAtEnd new.left
  pub short : length bytes < limit

-- a piece more stands behind the input, or the source is at its end
pub record More (old new : Seen) (before after : List ℕ) (most count : ℕ) : Type 0 where
  pub piece : List ℕ
  pub consumed : Consumes old.left new.left piece
  pub grown : after ≡ before ++ piece
  pub long : length piece ≡ count
  pub within : count ≤ most
  pub kept : new.faults ≡ old.faults
  pub unended : 0 < count → new.ends ≡ old.ends
  pub ended : count ≡ 0 → IsAtEnd new.left × (new.ends ≡ raised old.ends)

-- nothing was read, since the source failed, or since there was no memory
pub record IsUnread (old new : Seen) (status : Status) : Type 0 where
  pub stays : Keeps old.left new.left
  pub why : ((status ≡ ReadFault) × Rose old.faults new.faults) ⊎ ((status ≡ Memory) × (new.faults ≡ old.faults))
