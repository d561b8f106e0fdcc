-- How one line is answered.
use Rattle.std.specs.Prelude.{ℕ, None, ◌≡◌, ◌<◌, ◌≤◌, ◌+◌, List, [], ◌∷◌, ◌++◌, length, Option, option_map}
use Rattle.pm_model.specs.Formed.{Each}
use Rattle.pm_model.specs.Lines.{cut, event_of}
use Rattle.pm_model.specs.Solo.{asked_at}
use Rattle.pm_model.specs.declared.requests.Asked.{Asked}
use Rattle.pm_model.specs.declared.requests.What.{What}
use Rattle.pm_model.specs.declared.replies.Reply.{Reply}
use Rattle.pm_session.specs.Cuts.{HasNoFeed, IsCut, joined}
use Rattle.pm_session.specs.Streams.{Streams}
use Rattle.pm_session.specs.Taken.{first_event}
use Rattle.pm_world.specs.Transcripts.{Exchange, what_of, reply_of, version_of, entry_of}
use Rattle.pm_house.specs.Seated.{Seated, Hears}
use Rattle.pm_worker.specs.Shares.{share_of}
use Rattle.pm_worker.specs.Told.{Told, told_line, reply_line, IsNoFault, Tells}

-- what the first line asks, where one waits
abbrev pub next_asked : List ℕ → Option Asked
next_asked waiting = option_map asked_at (first_event waiting)

-- the seat has answered what is asked by one exchange, whose reply and version are these; it shows that version
pub record Speaks (calm : Type 0) (s t : Seated) (what : What) (reply : Reply) (v : ℕ) : Type 0 where
  pub exchange : Exchange
  pub seat : t.lane.seat ≡ s.lane.seat
  pub share : t.lane.share ≡ s.lane.share + length (entry_of s.lane.seat exchange)
  pub hears : Hears s t (exchange ∷ [])
  pub what_is : what ≡ what_of exchange
  pub reply_is : reply ≡ reply_of exchange
  pub version_is : v ≡ version_of exchange
  pub shown : v ≡ length t.machine.history
  pub no_fault : calm → IsNoFault exchange

-- the seat has answered what is asked by one exchange, and its line stands behind the output
pub record Replies (calm : Type 0) (s t : Seated) (asked : Asked) (output now : List ℕ) : Type 0 where
  pub exchange : Exchange
  pub seat : t.lane.seat ≡ s.lane.seat
  pub share : t.lane.share ≡ s.lane.share + length (entry_of s.lane.seat exchange)
  pub hears : Hears s t (exchange ∷ [])
  pub what_is : asked.what ≡ what_of exchange
  pub line_is : now ≡ output ++ told_line t.machine.history asked exchange
  pub no_fault : calm → IsNoFault exchange

-- the first line that waits was answered, which takes so much of a turn's share, and its reply stands behind the output
pub record Answers (calm : Type 0) (s t : Seated) (a b : Streams) (share : ℕ) : Type 0 where
  pub told : Told
  pub takes : share ≡ share_of (asked_at (event_of told.line)).what
  pub within : (0 < share) × (share ≤ 64)
  pub first : IsCut a.waiting told.line b.waiting
  pub tells : Tells calm s t (told ∷ [])
  pub output : b.output ≡ a.output ++ reply_line t.machine.history told

-- no line waits, and all is as before
abbrev pub StaysPut : Seated → Seated → Streams → Streams → Type 0
StaysPut s t a b = (t ≡ s) × (b ≡ a) × (cut a.waiting ≡ None)

-- at most one line was taken and got no reply
pub record Loses (waiting now : List ℕ) : Type 0 where
  pub lines : List (List ℕ)
  pub split : waiting ≡ joined lines ++ now
  pub few : length lines ≤ 1
  pub plain : Each HasNoFeed lines
