use Rattle.pm_house.specs.Desks.{NeverFails}
use Rattle.pm_worker.proofs.Talking.{talks_join}
use Rattle.pm_worker.proofs.laws.talks_join.Goals as goal

pub returns : goal.returns
returns g c = talks_join (NeverFails g.K.Keep.faults)
