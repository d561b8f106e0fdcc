use Rattle.pm_worker.proofs.crews.work_all.Goals as goal

pub returns-clause-works : goal.returns-clause-works
returns-clause-works g c = λ i d lt.
    let at = (c.for_each_mut.ensures i d lt).1 in
    let before = at.argument_is in
    let after = at.left in
    rw (before, after) at at.call.1
