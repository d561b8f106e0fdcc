-- What a session shows of its first line, and what is left behind it.
use Rattle.std.specs.Prelude.{◌≡◌, ℕ, List, Option, None, Some, option_map}
use Rattle.pm_model.specs.Lines.{Event, whole, too_long, event_of, cut}
use Rattle.pm_model.specs.declared.lines.LineEvent.{LineEvent}
use Rattle.pm_model.specs.declared.lines.LineEvent.TheVariants.{Line, TooLong}
use Rattle.pm_session.specs.Streams.{Streams}

-- a line that is lent is a whole one
abbrev pub shown : LineEvent → Event
shown (Line line) = whole line.now
shown TooLong = too_long

-- the event of the first line, where one is whole
abbrev pub first_event : List ℕ → Option Event
first_event bytes = option_map (λ p. event_of p.0) (cut bytes)

-- what is behind the line that is cut off, or all where none is
abbrev pub rest_of : List ℕ → Option (List ℕ × List ℕ) → List ℕ
rest_of w None = w
rest_of w (Some p) = p.1

-- the line with its line feed is gone, if there was one
pub record LeavesRest (old new : Streams) : Type 0 where
  pub waiting : new.waiting ≡ rest_of old.waiting (cut old.waiting)
  pub output : new.output ≡ old.output
