use Rattle.pm_session.proofs.FirstLine.{IsCut-cut, events-cut, events-no_cut}
use Rattle.pm_session.proofs.laws.cut_gives_the_first_event.Goals as goal

pub returns-clause-found : goal.returns-clause-found
returns-clause-found c = λ bytes line rest more is. events-cut bytes line rest more (IsCut-cut bytes (line, rest) is)

pub returns-clause-missing : goal.returns-clause-missing
returns-clause-missing c = events-no_cut
