use Rattle.pm_affect.proofs.Before.{made_right}
use Rattle.pm_affect.proofs.laws.made_right.Goals as goal

pub returns : goal.returns
returns c = made_right
