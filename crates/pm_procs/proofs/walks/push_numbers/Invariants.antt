use Rattle.std.proofs.Common.{◌≡◌, ◌++◌, take, map, filter}
use Rattle.pm_model.specs.Sessions.{is_of_session}
use Rattle.pm_model.specs.declared.sessions.Process.{Process}
use Rattle.pm_procs.proofs.walks.push_numbers.Given as goal

abbrev pub invariant-loop-process : goal.invariant-loop-process
invariant-loop-process l =
    l.numbers ≡ l.initial.numbers ++ map (λ (p : Process). p.number) (filter (is_of_session l.session) (take l.process-index l.processes))
