use Rattle.pm_worker.proofs.Wiring.{sends-more, quiet-then}
use Rattle.pm_worker.proofs.sending.send.Goals as goal

pub loop-link-preserved : goal.loop-link-preserved
loop-link-preserved g c =
    let h = c.loop-link.invariant in
    let out = c.out-in-loop-link.ensures in
    let written = rw out at c.in-Took.ensures.written in
    let e = c.sent.ensures in
    record {
      sends = sends-more _ _ _ _ _ _ c.in-Took.count h.sends written.2 e.output c.write.ensures.left c.write.ensures.later e.waiting;
      quiet = quiet-then _ _ _ h.quiet c.in-Took.ensures.counts;
    }
