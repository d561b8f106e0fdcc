use Rattle.pm_print.proofs.Asking.{printed_is_asked}
use Rattle.pm_print.proofs.laws.printed_is_asked.Goals as goal

pub returns : goal.returns
returns c = printed_is_asked
