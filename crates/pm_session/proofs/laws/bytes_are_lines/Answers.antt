use Rattle.pm_session.proofs.WholeLines.{AreLines-some}
use Rattle.pm_session.proofs.laws.bytes_are_lines.Goals as goal

pub returns : goal.returns
returns c = AreLines-some
