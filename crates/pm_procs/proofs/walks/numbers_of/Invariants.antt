use Rattle.std.proofs.Common.{◌≡◌, ◌-◌, take, length, map, filter}
use Rattle.pm_model.specs.Sessions.{is_of_session}
use Rattle.pm_model.specs.declared.sessions.Process.{Process}
use Rattle.pm_procs.proofs.walks.numbers_of.Given as goal

abbrev pub invariant-loop-begin : goal.invariant-loop-begin
invariant-loop-begin l = l.numbers ≡ map (λ (p : Process). p.number) (filter (is_of_session l.session) (take l.begin l.processes.items))

abbrev pub decreases-loop-begin : goal.decreases-loop-begin
decreases-loop-begin l = length l.processes.items - l.begin
