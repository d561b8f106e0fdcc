-- What the fields of a session hold.
use Rattle.std.specs.Prelude.{◌≤◌, length, drop, vec_capacity}
use Rattle.pm_session.specs.Streams.{Streams}
use Rattle.pm_session.specs.Waiting.{IsWaiting}
use Rattle.pm_session.specs.declared.session.Session.TheInside.{Inside}

-- the bytes from `start` on wait, and those of the output from `unsent` on are to be sent
abbrev pub streams_of : Inside → Streams
streams_of s = record { waiting = drop s.start s.waiting.items; output = drop s.unsent s.output.items }

-- what waits is kept as lines are, in a buffer that never grows; the output has its room, whatever is in it
pub record IsHeld (s : Inside) : Type 0 where
  pub begun : s.start ≤ length s.waiting.items
  pub within : length s.waiting.items ≤ 16384
  pub room : 16384 ≤ vec_capacity s.waiting
  pub kept : IsWaiting (drop s.start s.waiting.items) s.tail
  pub unsent : s.unsent ≤ length s.output.items
  pub together : 16384 ≤ vec_capacity s.output
