use Rattle.pm_house.specs.Desks.{NeverFails}
use Rattle.pm_worker.proofs.Talking.{ended_finishes}
use Rattle.pm_worker.proofs.laws.ended_finishes.Goals as goal

pub returns : goal.returns
returns g c = ended_finishes (NeverFails g.K.Keep.faults)
