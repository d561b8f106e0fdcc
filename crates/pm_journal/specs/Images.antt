-- What the bytes of a journal stand for, and what a crash may leave of them. The project's own.
use Rattle.std.specs.Prelude.{◌≡◌, ◌≢◌, ◌⊎◌, ℕ, zero, suc, ◌+◌, ◌-◌, ◌<◌, ◌≤◌, List, [], ◌∷◌, ◌++◌, length, take, drop, get_or, Option, None, Some, IfSome}
use Rattle.pm_model.specs.Formed.{Each as EachOf}
use Rattle.pm_journal.specs.Notes.{Note, IsNote, header, size, note_of, notes_in}

-- the bytes stand for these notes, 262,144 at most: behind the header their records, and then a closed gate; what is behind it means
-- nothing
pub record Stands (notes : List Note) (bytes : List ℕ) : Type 0 where
  pub front : List ℕ
  pub rest : List ℕ
  pub split : bytes ≡ header ++ front ++ 0 ∷ rest
  pub records : notes_in (length notes) front ≡ Some notes
  pub lines : EachOf IsNote notes
  pub few : length notes ≤ 262144

-- the bytes begin so, and a closed gate stands behind that, at e
pub record Rests (e : ℕ) (begin bytes : List ℕ) : Type 0 where
  pub begins : take e bytes ≡ begin
  pub shut : get_or bytes e 1 ≡ 0

-- the bytes begin so, some gate stands behind that, at e, then this body, and a closed gate
pub record Doubts (e : ℕ) (begin behind bytes : List ℕ) : Type 0 where
  pub begins : take e bytes ≡ begin
  pub gate : e < length bytes
  pub body : take (length behind + 1) (drop (e + 1) bytes) ≡ behind ++ 0 ∷ []

-- a body is as long as it says, and its line asks a request
pub record IsBody (behind : List ℕ) : Type 0 where
  pub whole : size behind ≡ length behind
  pub note : IsNote (note_of behind)

-- this many records, 262,144 at most, behind a header
pub record IsFront (e k : ℕ) (begin : List ℕ) (notes : List Note) : Type 0 where
  pub long : length begin ≡ e
  pub header : take 8 begin ≡ header
  pub records : notes_in k (drop 8 begin) ≡ Some notes
  pub lines : EachOf IsNote notes
  pub few : k ≤ 262144
