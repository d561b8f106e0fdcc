-- What a feed gives, and what a worker does. The project's own.
use Rattle.std.specs.Prelude.{ℕ, ◌≡◌, ◌≤◌, ◌+◌, Bool, true, false, List, [], ◌∷◌, length, flat_map, Option, Some, None}
use mathlib.Core.List.{IsPrefix}
use Rattle.pm_session.specs.Streams.{Streams}
use Rattle.pm_io.specs.Wires.{Wire}
use Rattle.pm_house.specs.Seated.{Seated, Rests}
use Rattle.pm_worker.specs.Connected.{Connected}
use Rattle.pm_worker.specs.Served.{AfterTurn}
use Rattle.pm_worker.specs.Told.{Told, Tells}
use Rattle.pm_worker.specs.Turns.{Serves}
use Rattle.pm_worker.specs.declared.feeds.Next.{Next}
use Rattle.pm_worker.specs.declared.feeds.Next.TheVariants as next
use Rattle.pm_worker.specs.declared.turns.Turn.{Turn}
use Rattle.pm_worker.specs.declared.turns.Turn.TheVariants as turned

abbrev pub number_out : {L : Type 0} → Next L → Option ℕ
number_out (next.Turn conn) = Some conn.number
number_out next.Stop = None

-- a turn of a connection: what waited and was to be sent before and after it, what its link told, how it ended, and the lines
-- that were answered in it
pub record Given : Type 0 where
  pub before : Streams
  pub now : Streams
  pub link_before : Wire
  pub link_now : Wire
  pub turn : Turn
  pub told : List Told

pub record IsGiven (calm : Type 0) (s t : Seated) (x : Given) : Type 0 where
  pub serves : Serves calm s t x.before x.now x.link_before x.link_now x.turn
  pub lines : serves.told ≡ x.told

-- the seat gave these turns, each from where the one before has left it
abbrev pub AreGiven : Type 0 → Seated → Seated → List Given → Type 0
AreGiven calm s t [] = t ≡ s
AreGiven calm s t (x ∷ xs) = (m : Seated) × IsGiven calm s m x × AreGiven calm m t xs

abbrev pub told_in : List Given → List Told
told_in xs = flat_map (λ x. x.told) xs

-- what a worker's seat has come to: by turns, and all the lines of all of them are one transcript
pub record Works (calm : Type 0) (s t : Seated) : Type 0 where
  pub turns : List Given
  pub given : AreGiven calm s t turns
  pub tells : Tells calm s t (told_in turns)

-- the same, and afterwards it met another seat
pub record WorksAndMeets (calm : Type 0) (s t : Seated) : Type 0 where
  pub worked : Seated
  pub works : Works calm s worked
  pub rests : Rests worked t
  pub tells : Tells calm s t (told_in works.turns)

-- a member of a crew has met the seat that is now s: its own was told nothing, and its front begins that of s; its feed is as
-- before
pub record HasMet {F : Type 0} (s before now : Seated) (feed_before feed_now : F) : Type 0 where
  pub rests : Rests before now
  pub front : IsPrefix now.machine.history s.machine.history
  pub feed : feed_now ≡ feed_before

-- ---- a list

-- the connections that go on, the number of the one that was given, those whose last turn is over, in that order, and
-- whether it has said that there are no more
pub record Listed (L : Type 0) : Type 0 where
  pub going : List (Connected L)
  pub out : Option ℕ
  pub done : List (AfterTurn L)
  pub stopped : Bool

abbrev pub goes_on : Turn → Bool
goes_on turned.Idle = true
goes_on turned.More = true
goes_on _ = false

abbrev pub count_out : Option ℕ → ℕ
count_out None = 0
count_out (Some n) = 1

-- there is room for the one that is out
pub record HasRoom {A B : Type 0} (going : List A) (out : Option ℕ) (done : List B) (going_room done_room : ℕ) : Type 0 where
  pub next : length going + count_out out ≤ going_room
  pub over : length done + (length going + count_out out) ≤ done_room

-- the first one is given; Stop comes exactly where there is none
abbrev pub Gives : {L : Type 0} → Listed L → Listed L → Next L → Type 0
Gives f g (next.Turn conn) = (f.going ≡ conn ∷ g.going) × (g.done ≡ f.done) × (g.stopped ≡ f.stopped)
Gives f g next.Stop = (f.going ≡ []) × (g ≡ record f { stopped = true })
