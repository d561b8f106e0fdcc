use Rattle.pm_affect.proofs.Named.{region_live}
use Rattle.pm_affect.proofs.laws.region_live.Goals as goal

pub returns : goal.returns
returns c = region_live
