use Rattle.pm_laws.proofs.Resolved.{formed-administered}
use Rattle.pm_laws.proofs.formed_administered.Goals as goal

pub returns : goal.returns
returns c = formed-administered
