-- The place at i is denied, or the answer is that of those after it.
use Rattle.pm_admin.proofs.FirstDenied.{left-denied, left-more}
use Rattle.pm_admin.proofs.capabilities.denied_on.Goals as goal

pub returns-in-Some : goal.returns-in-Some
returns-in-Some c =
    left-denied c.args.graph.now c.args.user c.args.process c.args.right c.args.places.now c.loop-i.i c.at.result.now c.in-Some.why
    c.loop-i.invariant c.at.ensures c.in-Some.ensures

pub loop-i-preserved : goal.loop-i-preserved
loop-i-preserved c =
    left-more c.args.graph.now c.args.user c.args.process c.args.right c.args.places.now c.loop-i.i c.at.result.now
    c.loop-i.invariant c.at.ensures c.in-None.ensures
