-- The table as callers see it.
use Rattle.std.specs.Prelude.{Bool}
use Rattle.pm_model.specs.Sessions.{Procs}

pub record Shown : Type 0 where
  -- the live sessions and processes, and the next number of each
  pub procs : Procs
  -- whether the table has shared none of its pages since it was made
  pub alone : Bool
