use Rattle.pm_house.specs.Desks.{NeverFails}
use Rattle.pm_worker.proofs.Talking.{turn_talks}
use Rattle.pm_worker.proofs.laws.turn_talks.Goals as goal

pub returns : goal.returns
returns g c = turn_talks (NeverFails g.K.Keep.faults)
