use Rattle.pm_by_name.proofs.Ordered.{AreInOrder}
use Rattle.pm_by_name.proofs.by_name.are_in_order.Given as goal

abbrev pub invariant-loop-k : goal.invariant-loop-k
invariant-loop-k g l = AreInOrder g.T.ByName.before l.k l.items
