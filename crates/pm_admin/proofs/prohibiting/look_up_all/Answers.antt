use Rattle.std.proofs.Common.{sym}
use Rattle.pm_admin.proofs.Places.{found-more, found-not}
use Rattle.pm_admin.proofs.prohibiting.look_up_all.Goals as goal

pub returns-in-Err : goal.returns-in-Err
returns-in-Err c =
    found-not c.args.graph.now c.args.names.now c.loop-i.i c.at.result.now c.in-Err.why c.loop-i.places c.loop-i.invariant c.at.ensures
    (sym c.in-Err.ensures)

pub loop-i-preserved : goal.loop-i-preserved
loop-i-preserved c =
    rw (c.in-Ok-push.ensures.ok)
    (found-more c.args.graph.now c.args.names.now c.loop-i.i c.at.result.now c.in-Ok.place c.loop-i.places c.loop-i.invariant c.at.ensures
    (sym c.in-Ok.ensures))
