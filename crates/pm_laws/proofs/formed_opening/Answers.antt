use Rattle.pm_laws.proofs.Formed.{formed-opening}
use Rattle.pm_laws.proofs.formed_opening.Goals as goal

pub returns : goal.returns
returns c = formed-opening
