use Rattle.std.proofs.Common.{refl}
use Rattle.pm_by_name.proofs.Ordered.{in-order}
use Rattle.pm_by_name.proofs.by_name.are_in_order.Goals as goal

pub returns : goal.returns
returns g c = (λ yes. in-order g.T.ByName.before c.loop-k.k c.args.items.now c.loop-k-test.false c.loop-k.invariant, λ rising. refl)
