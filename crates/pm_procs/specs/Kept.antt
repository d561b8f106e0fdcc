-- What contracts see of the table, and what it keeps.
use Rattle.std.specs.Prelude.{◌&&◌}
use Rattle.pm_model.specs.Formed.{AreNumbered}
use Rattle.pm_model.specs.Sessions.{Procs}
use Rattle.pm_procs.specs.Shown.{Shown}
use Rattle.pm_procs.specs.declared.table.Procs.TheInside.{Inside}

abbrev pub procs_of : Inside → Procs
procs_of t =
    record { sessions = t.sessions.items; processes = t.processes.items; next_session = t.next_session; next_process = t.next_process }

abbrev pub shown : Inside → Shown
shown t = record { procs = procs_of t; alone = t.sessions.alone && t.processes.alone }

abbrev pub IsKept : Inside → Type 0
IsKept t = AreNumbered (procs_of t)
