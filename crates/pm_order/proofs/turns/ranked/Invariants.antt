use Rattle.std.proofs.Common.{◌≡◌, ◌-◌, ◌++◌, length}
use Rattle.pm_order.specs.Ranked.{ranked}
use Rattle.pm_order.proofs.Free.{AreQueued}
use Rattle.pm_order.proofs.turns.ranked.Given as goal

abbrev pub invariant-loop : goal.invariant-loop
invariant-loop l =
    (length l.made.items ≡ length l.containers)
    × AreQueued l.containers l.made.items l.free
    × (l.out.items ++ ranked l.containers (l.most - l.counter) l.made.items ≡ ranked l.containers l.most l.fn.made.items)
