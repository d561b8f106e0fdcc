use Rattle.pm_affect.proofs.Before.{list_in_order}
use Rattle.pm_affect.proofs.laws.list_in_order.Goals as goal

pub returns : goal.returns
returns c = list_in_order
