use Rattle.pm_session.proofs.WholeLines.{events-lines}
use Rattle.pm_session.proofs.laws.events_are_of_the_lines.Goals as goal

pub returns : goal.returns
returns c = events-lines
