use Rattle.pm_reach.proofs.Orders.{order-removes}
use Rattle.pm_reach.proofs.Preparing.{can-follow, nothing-ready}
use Rattle.pm_reach.proofs.Spanning.{keep-removes}
use Rattle.pm_reach.proofs.Covering.{removes_unions}
use Rattle.pm_reach.proofs.rows.Rows.follow_remove.Goals as goal

pub invariant_of-self : goal.invariant_of-self
invariant_of-self c =
    let possible = can-follow c.self.inside.table c.self.inside.unions.rows c.self.inside.containers c.self.inside.ready _ (rw (← c.self.view_is) at c.requires) c.self.invariant.1 in (
      order-removes c.self.inside.table.rows c.remove.new.table.rows c.args.x possible.1 c.remove.ensures c.self.invariant.0,
      nothing-ready c.remove.new.table c.self.inside.unions.rows c.self.inside.containers c.take-ready.new.ready c.take-ready.ensures.none,
      keep-removes c.self.inside.table.rows c.remove.new.table.rows c.self.inside.containers c.args.x c.remove.ensures c.self.invariant.2,
      removes_unions c.self.inside.unions.rows c.self.inside.table.rows c.remove.new.table.rows c.args.x c.remove.ensures c.self.invariant.3,
    )
