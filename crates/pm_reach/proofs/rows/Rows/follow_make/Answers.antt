use Rattle.pm_reach.proofs.Preparing.{can-follow, covered, container-held, order-makes, nothing-ready}
use Rattle.pm_reach.proofs.Spanning.{keep-makes}
use Rattle.pm_reach.proofs.Covering.{makes_unions}
use Rattle.pm_reach.proofs.rows.Rows.follow_make.Goals as goal

pub invariant_of-self : goal.invariant_of-self
invariant_of-self c =
    let possible = can-follow c.self.inside.table c.self.inside.unions.rows c.self.inside.containers c.self.inside.ready _ (rw (← c.self.view_is) at c.requires) c.self.invariant.1 in (
      order-makes c.self.inside.table.rows c.make.new.table.rows c.args.x c.args.into possible c.make.ensures c.self.invariant.0,
      nothing-ready c.make.new.table c.self.inside.unions.rows c.self.inside.containers c.take-ready.new.ready c.take-ready.ensures.none,
      keep-makes c.self.inside.table.rows c.make.new.table.rows c.self.inside.containers c.args.x c.args.into
          (container-held c.self.inside.table c.self.inside.unions.rows c.self.inside.containers c.self.inside.ready _ (rw (← c.self.view_is) at c.requires) c.self.invariant.1) c.self.invariant.2 c.make.ensures,
      makes_unions c.self.inside.unions.rows c.self.inside.table.rows c.make.new.table.rows c.args.x c.args.into c.self.invariant.3
          (covered c.self.inside.table c.self.inside.unions.rows c.self.inside.containers c.self.inside.ready _ (rw (← c.self.view_is) at c.requires) c.self.invariant.1) c.make.ensures,
    )
