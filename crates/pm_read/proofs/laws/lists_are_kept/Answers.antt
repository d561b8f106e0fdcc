use Rattle.pm_read.proofs.Lists.{lists_are_kept}
use Rattle.pm_read.proofs.laws.lists_are_kept.Goals as goal

pub returns : goal.returns
returns c = lists_are_kept
