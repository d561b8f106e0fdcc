use Rattle.pm_print.proofs.Bounds.{reply_is_short}
use Rattle.pm_print.proofs.laws.reply_is_short.Goals as goal

pub returns : goal.returns
returns c = reply_is_short
