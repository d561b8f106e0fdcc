use Rattle.pm_print.proofs.Replying.{line_has_one_meaning}
use Rattle.pm_print.proofs.laws.line_has_one_meaning.Goals as goal

pub returns : goal.returns
returns c = line_has_one_meaning
