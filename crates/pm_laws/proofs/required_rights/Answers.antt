use Rattle.pm_laws.proofs.Authority.{required-administrative, required-named}
use Rattle.pm_laws.proofs.required_rights.Goals as goal

pub returns : goal.returns
returns c = record { administrative = required-administrative; named = required-named }
