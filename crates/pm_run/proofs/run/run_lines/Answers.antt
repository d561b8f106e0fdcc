use Rattle.pm_run.proofs.Ending.{ran-nothing}
use Rattle.pm_run.proofs.run.run_lines.Goals as goal

pub returns-in_default-clause-ran : goal.returns-in_default-clause-ran
returns-in_default-clause-ran g c = ran-nothing _ _ _
