-- One more element was visited.
use Rattle.std.proofs.lemmas.Option.{get_or_from_slice_get}
use Rattle.pm_model.specs.Containment.{containers}
use Rattle.pm_search.proofs.SearchSteps.{Expanded-more}
use Rattle.std.proofs.Common.{arith}
use Rattle.pm_search.proofs.expand.Goals as goal

pub loop-i-preserved : goal.loop-i-preserved
loop-i-preserved g c =
    let all = containers (g.P.Parents.assigned c.args.parents.now) c.args.z in
    Expanded-more c.parent-w.result c.loop-i.invariant c.visit-new_end.ensures (omega arith)
    (get_or_from_slice_get all c.loop-i.i c.parent-w.result 0 c.parent-w.ensures.answer) c.parent-w.ensures.live
