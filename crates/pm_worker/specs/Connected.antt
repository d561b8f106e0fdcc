-- What a connection is to its callers.
use Rattle.std.specs.Prelude.{ℕ}
use Rattle.pm_session.specs.Streams.{Streams}

pub record Connected (L : Type 0) : Type 0 where
  pub number : ℕ
  pub link : L
  pub session : Streams
