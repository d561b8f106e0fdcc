use Rattle.pm_run.proofs.Writing.{on_err_of}
use Rattle.pm_run.proofs.lines.send.Goals as goal

pub returns-in_err-write_all-clause-err : goal.returns-in_err-write_all-clause-err
returns-in_err-write_all-clause-err g c = on_err_of _ (let e = c.out.ensures in rw e at c.in_err-write_all.ensures.err)
