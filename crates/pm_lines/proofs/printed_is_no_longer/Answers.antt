use Rattle.pm_lines.proofs.Shorter.{printed_is_no_longer}
use Rattle.pm_lines.proofs.printed_is_no_longer.Goals as goal

pub returns : goal.returns
returns c = printed_is_no_longer
