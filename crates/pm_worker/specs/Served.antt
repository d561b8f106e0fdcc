-- A connection that has had a turn. The project's own.
use Rattle.pm_session.specs.Streams.{Streams}
use Rattle.pm_io.specs.Wires.{Wire}
use Rattle.pm_house.specs.Seated.{Seated}
use Rattle.pm_worker.specs.Connected.{Connected}
use Rattle.pm_worker.specs.Turns.{Serves}
use Rattle.pm_worker.specs.declared.turns.Turn.{Turn}

-- the connection, and how its turn ended
pub record AfterTurn (L : Type 0) : Type 0 where
  pub conn : Connected L
  pub turn : Turn

-- a turn of some seat has made this of it, and ended so
pub record IsServed {L : Type 0} (wire : L → Wire) (conn : Connected L) (turn : Turn) : Type 0 where
  pub before : Seated
  pub now : Seated
  pub session : Streams
  pub link : Wire
  pub serves : Serves ⊥ before now session conn.session link (wire conn.link) turn
