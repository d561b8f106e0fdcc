use Rattle.pm_session.proofs.Kept.{events-shape}
use Rattle.pm_session.proofs.laws.shape_has_the_events.Goals as goal

pub returns : goal.returns
returns c = events-shape
