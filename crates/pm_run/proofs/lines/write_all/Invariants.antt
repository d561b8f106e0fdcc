use Rattle.std.proofs.Common.{◌-◌, length}
use Rattle.pm_run.proofs.Writing.{Sending}
use Rattle.pm_run.proofs.lines.write_all.Given as goal

abbrev pub invariant-loop-sent : goal.invariant-loop-sent
invariant-loop-sent g l = Sending (g.O.Sink.taken l.initial.out) (g.O.Sink.taken l.out) (g.O.Sink.faults l.initial.out) (g.O.Sink.faults l.out) l.bytes l.sent

abbrev pub decreases-loop-sent : goal.decreases-loop-sent
decreases-loop-sent g l = length l.bytes - l.sent
