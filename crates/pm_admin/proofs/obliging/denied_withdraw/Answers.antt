use Rattle.pm_admin.proofs.Watched.{pattern-live}
use Rattle.pm_admin.proofs.obliging.denied_withdraw.Goals as goal

pub denied_watch-requires-clause-watched : goal.denied_watch-requires-clause-watched
denied_watch-requires-clause-watched c =
    (pattern-live c.args.graph.now c.args.index c.at-item.result.now c.formed.ensures (rw c.obligations.ensures at c.at-item.ensures)).0

pub denied_watch-requires-clause-target : goal.denied_watch-requires-clause-target
denied_watch-requires-clause-target c =
    (pattern-live c.args.graph.now c.args.index c.at-item.result.now c.formed.ensures (rw c.obligations.ensures at c.at-item.ensures)).1
