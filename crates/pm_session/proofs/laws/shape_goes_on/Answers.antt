use Rattle.pm_session.proofs.Kept.{shape-shape-append, events-shape-append}
use Rattle.pm_session.proofs.laws.shape_goes_on.Goals as goal

pub returns-clause-shape : goal.returns-clause-shape
returns-clause-shape c = shape-shape-append

pub returns-clause-events : goal.returns-clause-events
returns-clause-events c = events-shape-append
