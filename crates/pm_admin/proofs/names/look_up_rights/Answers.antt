use Rattle.std.proofs.Common.{◌<◌, arith}
use Rattle.pm_admin.proofs.RightNames.{looked_up-before}
use Rattle.pm_admin.proofs.names.look_up_rights.Goals as goal

pub loop-i-preserved : goal.loop-i-preserved
loop-i-preserved c =
    let some : 0 < c.loop-i.i = omega (arith, c.loop-i-test.true) in
    rw (c.with_named-found.ensures)
    (looked_up-before c.args.graph.now c.args.names.now c.loop-i.i c.at.result.now c.loop-i.found some c.loop-i.invariant c.at.ensures)
