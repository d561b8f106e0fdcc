-- What turns of one connection come to together, while the seat serves others too. The project's own.
use Rattle.std.specs.Prelude.{ℕ, ◌≡◌, Bool, List, [], ◌∷◌, ◌++◌, map, if◌then◌else◌}
use Rattle.std.specs.Io.KnownBytes.{Appends, Consumes, IsAtEnd}
use Rattle.pm_model.specs.Lines.{Event, event_of, events, shape}
use Rattle.pm_session.specs.Cuts.{joined}
use Rattle.pm_session.specs.Streams.{Streams}
use Rattle.pm_io.specs.Wires.{Wire}
use Rattle.pm_house.specs.Seated.{Seated}
use Rattle.pm_worker.specs.Told.{Told, lines_of, reply_lines, Tells}
use Rattle.pm_worker.specs.declared.turns.Turn.{Turn}
use Rattle.pm_worker.specs.declared.turns.Turn.TheVariants.{Idle, More, Ended, LinkFault, Memory}

-- the events of these lines
abbrev pub line_events : List Told → List Event
line_events ts = map (λ t. event_of t.line) ts

-- a turn that has ended the connection: each whole line of the input was answered, and each reply was taken
pub record Finishes (calm : Type 0) (s t : Seated) (a : Streams) (v w : Wire) : Type 0 where
  pub told : List Told
  pub got : List ℕ
  pub sent : List ℕ
  pub consumed : Consumes v.left w.left got
  pub at_end : IsAtEnd w.left
  pub appended : Appends v.taken w.taken sent
  pub lines : line_events told ≡ events (a.waiting ++ got)
  pub bytes : sent ≡ a.output ++ reply_lines t.machine.history told
  pub tells : Tells calm s t told

-- how a turn ends that its link didn't hinder
abbrev pub IsUnhindered : Turn → Type 0
IsUnhindered Idle = ⊥
IsUnhindered More = Unit {0}
IsUnhindered Ended = Unit {0}
IsUnhindered LinkFault = ⊥
IsUnhindered Memory = Unit {0}

-- a line that the seat answered, of this connection or of another
pub record Heard : Type 0 where
  pub own : Bool
  pub told : Told

abbrev pub all_of : List Heard → List Told
all_of hs = map (λ h. h.told) hs

abbrev pub own_of : List Heard → List Told
own_of [] = []
own_of (h ∷ hs) = if h.own then h.told ∷ own_of hs else own_of hs

-- the connection's bytes are the replies to its own lines, among all those that the seat answered, which are one transcript
pub record Talks (calm : Type 0) (s t : Seated) (a b : Streams) (v w : Wire) : Type 0 where
  pub heard : List Heard
  pub got : List ℕ
  pub sent : List ℕ
  pub consumed : Consumes v.left w.left got
  pub appended : Appends v.taken w.taken sent
  pub input : shape (a.waiting ++ got) ≡ joined (lines_of (own_of heard)) ++ b.waiting
  pub output : a.output ++ reply_lines t.machine.history (own_of heard) ≡ sent ++ b.output
  pub tells : Tells calm s t (all_of heard)
