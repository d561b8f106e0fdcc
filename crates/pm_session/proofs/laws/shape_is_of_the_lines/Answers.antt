use Rattle.pm_session.proofs.WholeLines.{shape-lines}
use Rattle.pm_session.proofs.laws.shape_is_of_the_lines.Goals as goal

pub returns : goal.returns
returns c = shape-lines
