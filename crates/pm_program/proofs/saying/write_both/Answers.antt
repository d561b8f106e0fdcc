use Rattle.pm_run.proofs.Writing.{WrotePart-before, WrotePart-behind, on_err_of}
use Rattle.pm_program.proofs.saying.write_both.Goals as goal

pub returns-in_err-write_all-clause-err : goal.returns-in_err-write_all-clause-err
returns-in_err-write_all-clause-err g c = on_err_of _ (WrotePart-before _ _ c.args.first.now c.args.second.now c.in_err-write_all.ensures.err)

pub returns-clause-err : goal.returns-clause-err
returns-clause-err g c = WrotePart-behind _ _ _ c.args.first.now c.args.second.now c.write_all-2.result c.in_ok-write_all.ensures.ok c.write_all-2.ensures.err
