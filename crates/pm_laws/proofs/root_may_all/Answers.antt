use Rattle.pm_laws.proofs.Authority.{root_may_all}
use Rattle.pm_laws.proofs.root_may_all.Goals as goal

pub returns : goal.returns
returns c = root_may_all
