use Rattle.pm_house.specs.Desks.{NeverFails}
use Rattle.pm_worker.proofs.Talking.{unhindered}
use Rattle.pm_worker.proofs.laws.quiet_link_hinders_nothing.Goals as goal

pub returns : goal.returns
returns g c = unhindered (NeverFails g.K.Keep.faults)
