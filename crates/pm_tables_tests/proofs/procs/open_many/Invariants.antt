use Rattle.std.proofs.Common.{◌≡◌, ◌+◌}
use Rattle.pm_tables_tests.proofs.procs.open_many.Given as goal

abbrev pub invariant-loop : goal.invariant-loop
invariant-loop l =
    (l.table.procs.next_session ≡ l.initial.table.procs.next_session + l.counter) × (l.table.procs.next_process ≡ l.initial.table.procs.next_process)
