use Rattle.pm_affect.proofs.Counting.{judged_listed}
use Rattle.pm_affect.proofs.laws.judged_listed.Goals as goal

pub returns : goal.returns
returns c = judged_listed
