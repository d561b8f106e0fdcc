use Rattle.pm_laws.proofs.Resolved.{number_of_name}
use Rattle.pm_laws.proofs.number_of_name.Goals as goal

pub returns : goal.returns
returns c = number_of_name
