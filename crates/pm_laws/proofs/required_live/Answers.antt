use Rattle.pm_laws.proofs.Authority.{required-live}
use Rattle.pm_laws.proofs.required_live.Goals as goal

pub returns : goal.returns
returns c = required-live
