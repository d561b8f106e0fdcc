use Rattle.pm_laws.proofs.LastChanges.{changes_told}
use Rattle.pm_laws.proofs.changes_told.Goals as goal

pub returns : goal.returns
returns c = changes_told
