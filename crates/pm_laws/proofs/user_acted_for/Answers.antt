use Rattle.pm_laws.proofs.Acting.{user_acted_for}
use Rattle.pm_laws.proofs.user_acted_for.Goals as goal

pub returns : goal.returns
returns c = user_acted_for
