use Rattle.pm_run.proofs.Ending.{ended-nothing}
use Rattle.pm_run.proofs.run.run_on.Goals as goal

pub returns-in_default-clause-ended : goal.returns-in_default-clause-ended
returns-in_default-clause-ended g c = ended-nothing _ _
