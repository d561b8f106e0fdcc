-- Records of a journal as bytes: a gate, the length of a line, a seat, a number, and the line. The project's own.
use Rattle.std.specs.Prelude.{ℕ, zero, suc, ◌+◌, ◌≤◌, List, [], ◌∷◌, ◌++◌, length, take, drop, nat_lt, if◌then◌else◌, Option, None, Some, option_map}
use Rattle.std.specs.Int.{w32, w64, from_be_bytes, to_be_bytes}
use Rattle.pm_model.specs.Asked.{asked}
use Rattle.pm_model.specs.declared.requests.Body.TheVariants as bodies
use Rattle.pm_model.specs.declared.requests.Entry.{Entry}
use Rattle.pm_model.specs.declared.requests.Request.{Request}
use Rattle.pm_model.specs.declared.requests.What.{What}
use Rattle.pm_model.specs.declared.requests.What.TheVariants as what

-- what a record keeps: an entry's seat and number, and the line of its request
pub record Note : Type 0 where
  pub seat : ℕ
  pub nth : ℕ
  pub line : List ℕ

-- "NGACJ001"
abbrev pub header : List ℕ
header = 78 ∷ 71 ∷ 65 ∷ 67 ∷ 74 ∷ 48 ∷ 48 ∷ 49 ∷ []

-- ---- the entry of a record

-- what a line asks is a request
abbrev pub IsRequest : What → Type 0
IsRequest (what.Request request) = Unit {0}
IsRequest (what.Bad bad) = ⊥

abbrev pub request_in : What → Request
request_in (what.Request request) = request
request_in (what.Bad bad) = record { after = None; body = bodies.Version }

-- a line that a record may have
pub record IsLine (line : List ℕ) : Type 0 where
  pub short : length line ≤ 8192
  pub asks : IsRequest (asked line).what

abbrev pub IsNote : Note → Type 0
IsNote note = IsLine note.line

abbrev pub entry_of : Note → Entry
entry_of note = record { seat = note.seat; nth = note.nth; request = request_in (asked note.line).what }

-- ---- a record without its gate

abbrev pub body : Note → List ℕ
body n = to_be_bytes w32 (length n.line) ++ to_be_bytes w32 n.seat ++ to_be_bytes w64 n.nth ++ n.line

abbrev pub line_length : List ℕ → ℕ
line_length bytes = from_be_bytes w32 (take 4 bytes)

-- how many bytes it has, by its first four
abbrev pub size : List ℕ → ℕ
size bytes = 16 + line_length bytes

abbrev pub note_of : List ℕ → Note
note_of bytes = record {
  seat = from_be_bytes w32 (take 4 (drop 4 bytes));
  nth = from_be_bytes w64 (take 8 (drop 8 bytes));
  line = take (line_length bytes) (drop 16 bytes);
}

-- ---- records one behind another

-- the notes of so many records, whose gates are open, where they are all the bytes
abbrev pub notes_in : ℕ → List ℕ → Option (List Note)
notes_in zero [] = Some []
notes_in zero (byte ∷ bytes) = None
notes_in (suc k) [] = None
notes_in (suc k) (zero ∷ bytes) = None
notes_in (suc k) (suc gate ∷ bytes) =
    if nat_lt (length bytes) (size bytes) then None else option_map (λ notes. note_of bytes ∷ notes) (notes_in k (drop (size bytes) bytes))
