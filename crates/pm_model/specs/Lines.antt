-- A stream of bytes as lines. The project's own.
use Rattle.std.specs.Prelude.{ℕ, ◌==◌, List, [], ◌∷◌, ◌++◌, length, nat_lt, if◌then◌else◌, replicate, Option, None, Some}

abbrev pub longest_line : ℕ
longest_line = 8192

-- a whole line without its line feed, or one of more than 8,192 bytes
pub data Event : Type 0 where
  whole : List ℕ → Event
  too_long : Event

abbrev pub event_of : List ℕ → Event
event_of line = if nat_lt longest_line (length line) then too_long else whole line

-- one event for each line feed of the bytes behind `begun`, which is what has come of the first line
abbrev pub events_from : List ℕ → List ℕ → List Event
events_from begun [] = []
events_from begun (c ∷ cs) = if c == 10 then event_of begun ∷ events_from [] cs else events_from (begun ++ c ∷ []) cs

abbrev pub events : List ℕ → List Event
events = events_from []

-- 8,193 spaces; a word of its own, since proofs must not write them out
unfoldable pub blank_line : List ℕ
blank_line = replicate 8193 32

-- a line that is too long is kept as one space more than a line may have
abbrev pub fit : List ℕ → List ℕ
fit line = if nat_lt longest_line (length line) then blank_line else line

-- the bytes with each line, the unfinished last one included, kept so
abbrev pub shape_from : List ℕ → List ℕ → List ℕ
shape_from begun [] = fit begun
shape_from begun (c ∷ cs) = if c == 10 then fit begun ++ 10 ∷ shape_from [] cs else shape_from (begun ++ c ∷ []) cs

abbrev pub shape : List ℕ → List ℕ
shape = shape_from []

-- the first line without its line feed, and the bytes behind it, where a line is whole
abbrev pub cut_from : List ℕ → List ℕ → Option (List ℕ × List ℕ)
cut_from begun [] = None
cut_from begun (c ∷ cs) = if c == 10 then Some (begun, cs) else cut_from (begun ++ c ∷ []) cs

abbrev pub cut : List ℕ → Option (List ℕ × List ℕ)
cut = cut_from []
