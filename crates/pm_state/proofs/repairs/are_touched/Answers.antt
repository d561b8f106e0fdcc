use Rattle.pm_state.specs.Containing.{relation_in}
use Rattle.pm_affect.proofs.Named.{region_live}
use Rattle.pm_state.proofs.Charged.{due-untouched-judged}
use Rattle.pm_state.proofs.Leaving.{due-untouched, elements-live, users-live}
use Rattle.pm_state.proofs.Repaired.{are-live, due-same}
use Rattle.pm_state.proofs.repairs.are_touched.Goals as goal

pub touches-requires-clause-region : goal.touches-requires-clause-region
touches-requires-clause-region c =
    let due = c.requires in
    rw (c.reach-reach.ensures.elements, c.reach-reach.ensures.assigned, due.asked.0)
    (region_live due.before c.args.graph.now due.change (relation_in c.args.graph.now) due.formed due.named due.led (λ n live. live))

pub touches-requires-clause-users : goal.touches-requires-clause-users
touches-requires-clause-users c =
    let L = c.args.lists.now in
    let H = c.args.graph.now in
    let due = c.requires in
    rw (c.reach-reach.ensures.elements)
    (users-live L H (are-live L c.kept.ensures due.before H c.formed.ensures (due-same L H c.args.region.now due) due.listed))

pub touches-requires-clause-elements : goal.touches-requires-clause-elements
touches-requires-clause-elements c =
    let L = c.args.lists.now in
    let H = c.args.graph.now in
    let due = c.requires in
    rw (c.reach-reach.ensures.elements)
    (elements-live L H (are-live L c.kept.ensures due.before H c.formed.ensures (due-same L H c.args.region.now due) due.listed))

pub returns-clause-listed : goal.returns-clause-listed
returns-clause-listed c = λ no.
    due-untouched c.args.lists.now c.args.graph.now c.args.region.now c.kept.ensures c.requires
    (rw (c.reach-reach.ensures.assigned) at (c.touches.ensures.none no))

pub returns-clause-judged : goal.returns-clause-judged
returns-clause-judged c = λ no due.
    due-untouched-judged c.args.lists.now c.args.graph.now c.args.region.now due (rw (c.reach-reach.ensures.assigned) at (c.touches.ensures.none no))
