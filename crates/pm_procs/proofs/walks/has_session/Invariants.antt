use Rattle.std.proofs.Common.{◌≡◌, ◌-◌, ◌≤◌, take, length, false}
use Rattle.std.specs.List.{list_any}
use Rattle.pm_model.specs.Sessions.{is_session_of}
use Rattle.pm_procs.proofs.walks.has_session.Given as goal

abbrev pub invariant-loop-begin : goal.invariant-loop-begin
invariant-loop-begin l = list_any (is_session_of l.user) (take l.begin l.sessions.items) ≡ false

abbrev pub decreases-loop-begin : goal.decreases-loop-begin
decreases-loop-begin l = length l.sessions.items - l.begin
