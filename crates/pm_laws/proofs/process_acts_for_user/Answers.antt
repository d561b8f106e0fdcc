use Rattle.pm_laws.proofs.Live.{user-is}
use Rattle.pm_laws.proofs.process_acts_for_user.Goals as goal

pub returns : goal.returns
returns c = user-is
