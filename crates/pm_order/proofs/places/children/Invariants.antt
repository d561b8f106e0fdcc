use Rattle.pm_order.proofs.Children.{AreChildrenTo}
use Rattle.pm_order.proofs.places.children.Given as goal

abbrev pub invariant-loop-place : goal.invariant-loop-place
invariant-loop-place l = AreChildrenTo l.place l.children.items l.containers
