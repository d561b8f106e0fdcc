use Rattle.pm_affect.proofs.Before.{agreed_right}
use Rattle.pm_affect.proofs.laws.agreed_right.Goals as goal

pub returns : goal.returns
returns c = agreed_right
