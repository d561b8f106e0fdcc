use Rattle.pm_laws.proofs.LastChanges.{last_changes_told}
use Rattle.pm_laws.proofs.last_changes_told.Goals as goal

pub returns : goal.returns
returns c = last_changes_told
