use Rattle.pm_lines.proofs.Askable.{asked_is_askable}
use Rattle.pm_lines.proofs.asked_is_askable.Goals as goal

pub returns : goal.returns
returns c = asked_is_askable
