use Rattle.pm_laws.proofs.Resolved.{resolve-named}
use Rattle.pm_laws.proofs.resolve_named.Goals as goal

pub returns : goal.returns
returns c = resolve-named
