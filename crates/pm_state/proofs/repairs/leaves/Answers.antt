use Rattle.std.proofs.Common.{◌≡◌, refl, sym, ◌∙◌, ap}
use Rattle.std.proofs.lemmas.Bool.{not-true}
use Rattle.pm_affect.specs.Affected.{region_by, region_of}
use Rattle.pm_affect.proofs.Named.{region_named}
use Rattle.pm_state.specs.Containing.{relation_in}
use Rattle.pm_state.proofs.Leaving.{elements-live, leaves-far, leaves-none, users-live}
use Rattle.pm_state.proofs.Repaired.{are-live}
use Rattle.pm_state.proofs.repairs.leaves.Goals as goal

pub returns-then-is_empty-clause-answer : goal.returns-then-is_empty-clause-answer
returns-then-is_empty-clause-answer c = λ yes.
    leaves-none c.args.graph.now c.args.change.now (rw (c.kept.ensures) at (c.is_empty.ensures.none c.if-is_empty.true))
    (sym c.keeps.ensures ∙ not-true c.keeps.result yes)

pub touches-touched-requires-clause-region : goal.touches-touched-requires-clause-region
touches-touched-requires-clause-region c =
    let G = c.args.graph.now in
    let is : c.in_ok-region.region ≡ region_of G c.args.change.now = c.in_ok-region.ensures.region ∙ ap (region_by c.args.change.now) c.lifted.ensures in
    rw (c.reach-reach.ensures.elements, c.reach-reach.ensures.assigned, is)
    (region_named G c.args.change.now (relation_in G) c.formed.ensures c.requires.named (λ n live. live))

pub touches-touched-requires-clause-users : goal.touches-touched-requires-clause-users
touches-touched-requires-clause-users c =
    let L = c.args.lists.now in
    let G = c.args.graph.now in
    rw (c.reach-reach.ensures.elements)
    (users-live L G (are-live L c.kept-2.ensures G G c.formed.ensures refl c.requires.listed))

pub touches-touched-requires-clause-elements : goal.touches-touched-requires-clause-elements
touches-touched-requires-clause-elements c =
    let L = c.args.lists.now in
    let G = c.args.graph.now in
    rw (c.reach-reach.ensures.elements)
    (elements-live L G (are-live L c.kept-2.ensures G G c.formed.ensures refl c.requires.listed))

pub returns-clause-answer : goal.returns-clause-answer
returns-clause-answer c = λ yes.
    let G = c.args.graph.now in
    let is : c.in_ok-region.region ≡ region_of G c.args.change.now = c.in_ok-region.ensures.region ∙ ap (region_by c.args.change.now) c.lifted.ensures in
    leaves-far G c.args.change.now c.args.lists.now c.formed.ensures c.requires.named c.kept-2.ensures c.requires.listed (sym c.if-alters.ensures)
    (rw (c.reach-reach.ensures.assigned, is) at (c.touches-touched.ensures.none (not-true c.touches-touched.result yes)))
