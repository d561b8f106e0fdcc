-- What stands at a place for a gate. The project's own.
use Rattle.std.specs.Prelude.{◌≡◌, ◌≢◌, ◌⊎◌, ℕ, ◌+◌, ◌<◌, ◌≤◌, List, length, map, take, drop, get_or}
use Rattle.pm_model.specs.Asked.{asked}
use Rattle.pm_journal.specs.Notes.{Note, IsRequest, entry_of, line_length, size, note_of}
use Rattle.pm_model.specs.declared.requests.Entry.{Entry}
use Rattle.pm_journal.specs.Images.{IsFront}
use Rattle.pm_journal.specs.Journals.{kept_in}

-- an open gate, a whole body, whose line isn't too long and asks a request, and at least a byte more
pub record IsWhole (note : Note) (bytes : List ℕ) : Type 0 where
  pub gate : get_or bytes 0 0 ≢ 0
  pub whole : size (drop 1 bytes) + 1 < length bytes
  pub short : line_length (drop 1 bytes) ≤ 8192
  pub note_is : note ≡ note_of (drop 1 bytes)
  pub asks : IsRequest (asked note.line).what

-- the same, but the line asks none
pub record AsksNothing (bytes : List ℕ) : Type 0 where
  pub whole : size (drop 1 bytes) + 1 < length bytes
  pub short : line_length (drop 1 bytes) ≤ 8192
  pub none : IsRequest (asked (note_of (drop 1 bytes)).line).what → ⊥

-- no byte; or an open gate that no such body and byte stands behind
abbrev pub IsBroken : List ℕ → Type 0
IsBroken bytes = (length bytes ≡ 0) ⊎ ((get_or bytes 0 0 ≢ 0) × ((length bytes ≤ size (drop 1 bytes) + 1) ⊎ ((8192 < line_length (drop 1 bytes)) ⊎ AsksNothing bytes)))

-- the first place for a gate at which something is wrong: behind so many records, each with a byte behind it, the bytes are broken, or
-- there are too many
pub record IsDamagedAt (at : ℕ) (content : List ℕ) : Type 0 where
  pub count : ℕ
  pub notes : List Note
  pub front : IsFront at count (take at content) notes
  pub there : at < length content
  pub wrong : IsBroken (drop at content) ⊎ ((count ≡ 262144) × (get_or content at 0 ≢ 0))

-- so many records stand behind the header, up to this place, and these are their entries
pub record AreRead (at k : ℕ) (content : List ℕ) (entries : List Entry) : Type 0 where
  pub front : IsFront at k (take at content) (kept_in k (take at content))
  pub entries_are : entries ≡ map entry_of (kept_in k (take at content))
