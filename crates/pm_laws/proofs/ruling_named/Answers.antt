use Rattle.pm_laws.proofs.Authority.{ruling-named}
use Rattle.pm_laws.proofs.ruling_named.Goals as goal

pub returns : goal.returns
returns c = ruling-named
