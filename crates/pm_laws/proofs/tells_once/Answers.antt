use Rattle.pm_laws.proofs.Once.{tells_once}
use Rattle.pm_laws.proofs.tells_once.Goals as goal

pub returns : goal.returns
returns c = tells_once
