-- What the parts of a run tell.
use Rattle.std.specs.Prelude.{◌≡◌, ◌≢◌, ℕ, List, Option, option_map, Result, Err}
use Rattle.pm_model.specs.Causes.{Rose}
use Rattle.pm_model.specs.Solo.{asked_at}
use Rattle.pm_session.specs.Taken.{first_event}
use Rattle.pm_model.specs.declared.requests.Asked.{Asked}
use Rattle.pm_run.specs.declared.lines.Stop.{Stop}
use Rattle.pm_run.specs.declared.lines.Stop.TheVariants as stop
use Rattle.pm_run.specs.declared.statuses.Status.{Status}
use Rattle.pm_run.specs.declared.statuses.Status.TheVariants as status

-- what the first line asks, where one waits
abbrev pub next_asked : List ℕ → Option Asked
next_asked waiting = option_map asked_at (first_event waiting)

-- a count of faults has risen where writing failed, and is as before where it didn't
pub record HasStopCause {T : Type 0} (before now : ℕ) (result : Result T Stop) : Type 0 where
  pub failed : result ≡ Err stop.WriteFault → Rose before now
  pub kept : result ≢ Err stop.WriteFault → now ≡ before

-- the status that tells why answering stopped
abbrev pub stop_status : Stop → Status
stop_status stop.WriteFault = status.WriteFault
stop_status stop.Memory = status.Memory
