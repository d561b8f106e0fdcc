-- What was found at a place for a gate. The project's own.
use Rattle.std.specs.Prelude.{◌≡◌, ◌≤◌, ◌^◌, ◌<◌, ℕ, List, drop, get_or}
use Rattle.pm_model.specs.declared.requests.Entry.{Entry}
use Rattle.pm_journal.specs.Notes.{entry_of, line_length, note_of}
use Rattle.pm_journal.specs.Reading.{IsWhole, IsBroken}
use Rattle.pm_journal.specs.declared.written.Found.{Found}
use Rattle.pm_journal.specs.declared.written.Found.TheVariants.{Closed, Broken, Whole}

-- the entry of a record that stands there, with the length of its line
pub record IsFoundWhole (bytes : List ℕ) (entry : Entry) (len : ℕ) : Type 0 where
  pub whole : IsWhole (note_of (drop 1 bytes)) bytes
  pub entry_is : entry ≡ entry_of (note_of (drop 1 bytes))
  pub len_is : len ≡ line_length (drop 1 bytes)

abbrev pub IsFound : List ℕ → Found → Type 0
IsFound bytes Closed = get_or bytes 0 1 ≡ 0
IsFound bytes Broken = IsBroken bytes
IsFound bytes (Whole entry len) = IsFoundWhole bytes entry len

-- no line is longer than a line may be
abbrev pub IsShort : Found → Type 0
IsShort (Whole entry len) = len ≤ 8192
IsShort found = Unit {0}
