use Rattle.std.proofs.Common.{None, refl}
use Rattle.pm_reach.proofs.Orders.{order-deassigns}
use Rattle.pm_reach.proofs.Preparing.{nothing-ready}
use Rattle.pm_reach.proofs.Spanning.{keep-deassigns}
use Rattle.pm_reach.proofs.Covering.{deassigns_unions}
use Rattle.pm_reach.proofs.rows.Rows.on_deassign.Goals as goal

pub invariant_of-self-2 : goal.invariant_of-self-2
invariant_of-self-2 g c = (
  order-deassigns (g.P.Parents.assigned c.args.parents.now) c.self.inside.table.rows c.deassign.new.table.rows c.args.x c.args.y
      (rw (← c.self.view_is) at c.requires.was) (rw c.ready_deassign.ensures.rows at c.deassign.ensures.rows) c.self.invariant.0,
  nothing-ready c.deassign.new.table c.ready_deassign.new.unions.rows c.self.inside.containers None refl,
  keep-deassigns (g.P.Parents.assigned c.args.parents.now) c.self.inside.table.rows c.deassign.new.table.rows c.self.inside.containers c.args.x c.args.y
      (rw (← c.self.view_is) at c.requires.was) (rw c.ready_deassign.ensures.rows at c.deassign.ensures.rows) c.self.invariant.2,
  deassigns_unions (g.P.Parents.assigned c.args.parents.now) c.ready_deassign.new.unions.rows c.self.inside.table.rows c.deassign.new.table.rows c.args.x c.args.y
      (rw (← c.self.view_is) at c.requires.was) (rw c.ready_deassign.ensures.rows at c.deassign.ensures.rows) c.ready_deassign.ensures.unions,
)
