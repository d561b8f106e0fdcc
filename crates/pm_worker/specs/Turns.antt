-- A turn of a connection. The project's own.
use Rattle.std.specs.Prelude.{ℕ, ◌≡◌, ◌≢◌, ◌<◌, ◌≤◌, ◌+◌, ◌⊎◌, max, List, [], ◌++◌, length, Option, None, Some}
use Rattle.std.specs.Io.KnownBytes.{Appends, Consumes, Keeps, IsAtEnd}
use Rattle.pm_model.specs.Formed.{Each}
use Rattle.pm_model.specs.Lines.{shape, cut}
use Rattle.pm_session.specs.Cuts.{HasNoFeed, joined}
use Rattle.pm_session.specs.Streams.{Streams}
use Rattle.pm_io.specs.Wires.{Wire, IsLater, IsQuiet, HasFailed, HasNoneToRead, HasNoRoom}
use Rattle.pm_io.specs.declared.links.LinkRead.{LinkRead}
use Rattle.pm_io.specs.declared.links.LinkRead.TheVariants as read
use Rattle.pm_house.specs.Seated.{Seated}
use Rattle.pm_model.specs.declared.requests.Entry.{Entry}
use Rattle.pm_worker.specs.Shares.{share_taken}
use Rattle.pm_worker.specs.Told.{Told, lines_of, reply_lines, longest_reply, Tells}
use Rattle.pm_worker.specs.declared.turns.Turn.{Turn}
use Rattle.pm_worker.specs.declared.turns.Turn.TheVariants.{Idle, More, Ended, LinkFault, Memory}

-- the first bytes of the output went to the link, and the others are left
pub record Sends (v w : Wire) (a b : Streams) : Type 0 where
  pub bytes : List ℕ
  pub appended : Appends v.taken w.taken bytes
  pub split : a.output ≡ bytes ++ b.output
  pub left : w.left ≡ v.left
  pub later : IsLater v w
  pub waiting : b.waiting ≡ a.waiting

-- why sending stopped: nothing is left to be sent, or the turn ends so
abbrev pub IsSent : Wire → Wire → List ℕ → Option Turn → Type 0
IsSent v w rest None = IsQuiet v w
IsSent v w rest (Some Idle) = (0 < length rest) × HasNoRoom v w
IsSent v w rest (Some LinkFault) = HasFailed v w
IsSent v w rest (Some _) = ⊥

-- how a turn ends that has had its share
abbrev pub IsClosed : Wire → Wire → List ℕ → Turn → Type 0
IsClosed v w rest Idle = (0 < length rest) × HasNoRoom v w
IsClosed v w rest More = (rest ≡ []) × IsQuiet v w
IsClosed v w rest LinkFault = HasFailed v w
IsClosed v w rest _ = ⊥

-- a read, and what then waits
pub record Feeds (v w : Wire) (a b : Streams) (n : ℕ) : Type 0 where
  pub bytes : List ℕ
  pub consumed : Consumes v.left w.left bytes
  pub pushed : b.waiting ≡ shape (a.waiting ++ bytes)
  pub count : length bytes ≡ n
  pub some : 0 < n
  pub most : n ≤ 4096
  pub quiet : IsQuiet v w

-- a read that gave nothing
pub record Starves (v w : Wire) (a b : Streams) : Type 0 where
  pub left : Keeps v.left w.left
  pub waiting : b.waiting ≡ a.waiting

abbrev pub IsFed : Wire → Wire → Streams → Streams → LinkRead → Type 0
IsFed v w a b (read.Got n) = Feeds v w a b n
IsFed v w a b read.End = Starves v w a b × IsAtEnd w.left × IsQuiet v w
IsFed v w a b read.Again = Starves v w a b × HasNoneToRead v w
IsFed v w a b read.Failed = Starves v w a b × HasFailed v w

-- what is left to be sent is no more than before, or than 16,384 bytes and one of these replies
abbrev pub IsShort : List Entry → List Told → List ℕ → List ℕ → Type 0
IsShort G told before now = length now ≤ max (length before) (16384 + longest_reply G told)

-- what a turn has done so far: lines were answered that take so much of its share, and so many bytes read
pub record Turning (calm : Type 0) (s t : Seated) (a b : Streams) (v w : Wire) (share total : ℕ) : Type 0 where
  pub told : List Told
  pub got : List ℕ
  pub sent : List ℕ
  pub consumed : Consumes v.left w.left got
  pub appended : Appends v.taken w.taken sent
  pub later : IsLater v w
  pub input : shape (a.waiting ++ got) ≡ joined (lines_of told) ++ b.waiting
  pub output : a.output ++ reply_lines t.machine.history told ≡ sent ++ b.output
  pub tells : Tells calm s t told
  pub short : IsShort t.machine.history told a.output b.output
  pub kept : shape b.waiting ≡ b.waiting
  pub answered : share_taken told ≡ share
  pub few : length told ≤ 64
  pub read : length got ≡ total

-- when each answer comes: a count of the link rises exactly where the answer says so
abbrev pub IsCaused : Turn → Streams → Wire → Wire → ℕ → ℕ → Type 0
IsCaused Idle b v w share total =
    ((0 < length b.output) × HasNoRoom v w) ⊎ ((b.output ≡ []) × (cut b.waiting ≡ None) × HasNoneToRead v w)
IsCaused More b v w share total = ((64 ≤ share) ⊎ (65536 ≤ total)) × (b.output ≡ []) × IsQuiet v w
IsCaused Ended b v w share total = IsAtEnd w.left × (cut b.waiting ≡ None) × (b.output ≡ []) × IsQuiet v w
IsCaused LinkFault b v w share total = HasFailed v w
IsCaused Memory b v w share total = Unit {0}

-- a whole turn
pub record Serves (calm : Type 0) (s t : Seated) (a b : Streams) (v w : Wire) (turn : Turn) : Type 0 where
  -- the lines that were answered, what the link gave, and what it took
  pub told : List Told
  pub got : List ℕ
  pub sent : List ℕ
  -- a line that was taken and not answered, which comes with Memory alone
  pub lost : List (List ℕ)
  pub consumed : Consumes v.left w.left got
  pub appended : Appends v.taken w.taken sent
  pub later : IsLater v w
  pub input : shape (a.waiting ++ got) ≡ joined (lines_of told) ++ (joined lost ++ b.waiting)
  pub few : length lost ≤ 1
  pub plain : Each HasNoFeed lost
  pub none : turn ≢ Memory → lost ≡ []
  pub output : a.output ++ reply_lines t.machine.history told ≡ sent ++ b.output
  pub short : IsShort t.machine.history told a.output b.output
  pub tells : Tells calm s t told
  pub cause : IsCaused turn b v w (share_taken told) (length got)
  -- it isn't longer than its share
  pub lines_most : length told ≤ 64
  pub share_most : share_taken told ≤ 127
  pub bytes_most : length got ≤ 69632
