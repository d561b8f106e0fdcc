use Rattle.pm_order.proofs.Free.{to-all, to-more}
use Rattle.pm_order.proofs.turns.all_free.Goals as goal

pub loop-place-preserved : goal.loop-place-preserved
loop-place-preserved c =
    to-more c.args.containers.now c.args.made.now c.loop-place.place c.loop-place.free c.add_if_free.new.free c.loop-place.invariant c.in_ok-add_if_free.ensures

pub returns : goal.returns
returns c = to-all c.args.containers.now c.args.made.now c.loop-place.place c.loop-place.free c.loop-place-test.false c.loop-place.invariant
