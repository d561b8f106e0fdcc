use Rattle.pm_reach.proofs.Orders.{order-assigns}
use Rattle.pm_reach.proofs.Preparing.{can-follow, covered, container-held, nothing-ready}
use Rattle.pm_reach.proofs.Spanning.{keep-assigns}
use Rattle.pm_reach.proofs.Covering.{assigns_unions}
use Rattle.pm_reach.proofs.rows.Rows.follow_assign.Goals as goal

pub invariant_of-self : goal.invariant_of-self
invariant_of-self c =
    let possible = can-follow c.self.inside.table c.self.inside.unions.rows c.self.inside.containers c.self.inside.ready _ (rw (← c.self.view_is) at c.requires) c.self.invariant.1 in (
      order-assigns c.self.inside.table.rows c.assign.new.table.rows c.args.x c.args.y possible.2 c.assign.ensures.rows c.self.invariant.0,
      nothing-ready c.assign.new.table c.self.inside.unions.rows c.self.inside.containers c.take-ready.new.ready c.take-ready.ensures.none,
      keep-assigns c.self.inside.table.rows c.assign.new.table.rows c.self.inside.containers c.args.y
          (container-held c.self.inside.table c.self.inside.unions.rows c.self.inside.containers c.self.inside.ready _ (rw (← c.self.view_is) at c.requires) c.self.invariant.1) c.self.invariant.2 c.args.x c.assign.ensures.rows,
      assigns_unions c.self.inside.unions.rows c.self.inside.table.rows c.assign.new.table.rows c.args.x c.args.y c.self.invariant.3
          (covered c.self.inside.table c.self.inside.unions.rows c.self.inside.containers c.self.inside.ready _ (rw (← c.self.view_is) at c.requires) c.self.invariant.1) c.assign.ensures.rows,
    )
