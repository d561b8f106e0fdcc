use Rattle.pm_affect.proofs.Once.{judged_exactly}
use Rattle.pm_affect.proofs.laws.judged_once.Goals as goal

pub returns-clause-exactly : goal.returns-clause-exactly
returns-clause-exactly c = judged_exactly
