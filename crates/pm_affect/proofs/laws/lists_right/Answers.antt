use Rattle.pm_affect.proofs.Before.{lists_right}
use Rattle.pm_affect.proofs.laws.lists_right.Goals as goal

pub returns : goal.returns
returns c = lists_right
