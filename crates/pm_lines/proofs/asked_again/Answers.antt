use Rattle.pm_lines.proofs.Askable.{asked_again}
use Rattle.pm_lines.proofs.asked_again.Goals as goal

pub returns : goal.returns
returns c = asked_again
