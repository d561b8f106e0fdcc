use Rattle.pm_session.proofs.InPieces.{pushed_all-shape, pushed_all-alike, events-pushed_all}
use Rattle.pm_session.proofs.laws.pieces_make_no_difference.Goals as goal

pub returns-clause-joined : goal.returns-clause-joined
returns-clause-joined c = pushed_all-shape

pub returns-clause-alike : goal.returns-clause-alike
returns-clause-alike c = pushed_all-alike

pub returns-clause-events : goal.returns-clause-events
returns-clause-events c = events-pushed_all
