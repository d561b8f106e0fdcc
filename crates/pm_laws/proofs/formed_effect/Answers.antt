use Rattle.pm_laws.proofs.Formed.{formed-effect}
use Rattle.pm_laws.proofs.formed_effect.Goals as goal

pub returns : goal.returns
returns c = formed-effect
