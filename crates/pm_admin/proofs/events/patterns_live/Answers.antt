use Rattle.pm_admin.proofs.Watched.{obligations-watch}
use Rattle.pm_admin.proofs.events.patterns_live.Goals as goal

pub returns : goal.returns
returns c = obligations-watch c.args.graph.now c.formed.ensures
