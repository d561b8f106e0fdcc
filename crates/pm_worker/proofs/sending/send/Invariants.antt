use Rattle.std.proofs.Common.{length}
use Rattle.pm_worker.proofs.Wiring.{Sending}
use Rattle.pm_worker.proofs.sending.send.Given as goal

abbrev pub invariant-loop-link : goal.invariant-loop-link
invariant-loop-link g l = Sending (g.L.Link.wire l.initial.link) (g.L.Link.wire l.link) l.initial.session l.session

abbrev pub decreases-loop-link : goal.decreases-loop-link
decreases-loop-link g l = length l.session.output
