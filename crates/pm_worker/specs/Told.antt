-- Lines that were answered: what each asked, what came of it, and the line that was told. The project's own.
use Rattle.std.specs.Prelude.{ℕ, ◌≡◌, ◌+◌, max, List, [], ◌∷◌, length, map, take, flat_map}
use Rattle.pm_model.specs.State.{name_numbered}
use Rattle.pm_model.specs.Formed.{Each}
use Rattle.pm_model.specs.History.{replay}
use Rattle.pm_model.specs.Lines.{event_of}
use Rattle.pm_model.specs.Solo.{asked_at}
use Rattle.pm_model.specs.Text.{text}
use Rattle.pm_model.specs.declared.requests.Asked.{Asked}
use Rattle.pm_model.specs.declared.requests.Entry.{Entry}
use Rattle.pm_session.specs.Cuts.{HasNoFeed}
use Rattle.pm_world.specs.Transcripts.{Exchange, answered, entered, faulted, what_of, reply_of, version_of, entries_in}
use Rattle.pm_house.specs.Seated.{Seated, Hears}

-- a line as it is kept, without its line feed, and what came of it
pub record Told : Type 0 where
  pub line : List ℕ
  pub exchange : Exchange

abbrev pub lines_of : List Told → List (List ℕ)
lines_of ts = map (λ t. t.line) ts

abbrev pub exchanges_of : List Told → List Exchange
exchanges_of ts = map (λ t. t.exchange) ts

-- the elements' names at a version of the history
abbrev pub names_at : List Entry → ℕ → ℕ → List ℕ
names_at G v = name_numbered (replay (take v G)).graph.elements

-- the reply to a line that asks this, at the version that the exchange names, with the names then
abbrev pub told_line : List Entry → Asked → Exchange → List ℕ
told_line G asked e = text asked.id (version_of e) (names_at G (version_of e)) (reply_of e)

abbrev pub reply_line : List Entry → Told → List ℕ
reply_line G t = told_line G (asked_at (event_of t.line)) t.exchange

-- the bytes of all the replies
abbrev pub reply_lines : List Entry → List Told → List ℕ
reply_lines G ts = flat_map (reply_line G) ts

-- how many bytes the longest of the replies has
abbrev pub longest_reply : List Entry → List Told → ℕ
longest_reply G [] = 0
longest_reply G (t ∷ ts) = max (length (reply_line G t)) (longest_reply G ts)

-- it isn't told that a keeper has failed
abbrev pub IsNoFault : Exchange → Type 0
IsNoFault (answered what reply v) = Unit {0}
IsNoFault (entered place nth request reply) = Unit {0}
IsNoFault (faulted request v) = ⊥

-- it is one line, and the exchange answers what it asks; where the keeper never fails, that isn't told either
pub record IsAnswered (calm : Type 0) (t : Told) : Type 0 where
  pub plain : HasNoFeed t.line
  pub asked : (asked_at (event_of t.line)).what ≡ what_of t.exchange
  pub no_fault : calm → IsNoFault t.exchange

-- on its way from the one to the other the seat has answered these lines and no others: its transcript has their exchanges,
-- and its share rose by their entries
pub record Tells (calm : Type 0) (s t : Seated) (ts : List Told) : Type 0 where
  pub seat : t.lane.seat ≡ s.lane.seat
  pub share : t.lane.share ≡ s.lane.share + length (entries_in s.lane.seat (exchanges_of ts))
  pub hears : Hears s t (exchanges_of ts)
  pub answered : Each (IsAnswered calm) ts
