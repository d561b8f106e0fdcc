use Rattle.pm_making.proofs.Accepted.{lines_make}
use Rattle.pm_making.proofs.laws.lines_make.Goals as goal

pub returns : goal.returns
returns c = lines_make
