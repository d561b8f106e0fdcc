use Rattle.pm_run.proofs.Writing.{on_err_of, sending-kept, sending-more}
use Rattle.pm_run.proofs.lines.write_all.Goals as goal

pub returns-in_err-count-clause-err : goal.returns-in_err-count-clause-err
returns-in_err-count-clause-err g c = on_err_of _ (sending-kept _ _ _ _ _ _ _ c.loop-sent.invariant c.loop-sent-test.true c.in_err-count.ensures.bytes)

pub loop-sent-preserved : goal.loop-sent-preserved
loop-sent-preserved g c =
    let r = c.rest.ensures in
    sending-more _ _ _ _ _ _ _ _ _ c.loop-sent.invariant (rw r at c.in_ok-count.ensures.bytes) (rw r at c.in_ok-count.ensures.bound) c.in_ok-count.ensures.cause.kept
