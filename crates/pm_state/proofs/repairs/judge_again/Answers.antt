-- What lies outside the region is right already.
use Rattle.std.proofs.Common.{refl, arith}
use Rattle.std.proofs.lemmas.Result.{IfOk-weaker}
use Rattle.pm_affect.specs.Counting.{judged_for}
use Rattle.pm_affect.specs.Lists.{Lists}
use Rattle.pm_affect.proofs.Were.{anew-were}
use Rattle.pm_state.specs.Containing.{relation_in}
use Rattle.pm_state.specs.Listing.{AreListed}
use Rattle.pm_model.specs.Reviews.{numbers_in, rights_in, users_in}
use Rattle.pm_state.specs.Repairs.{IsCharged, KeepsWere}
use Rattle.pm_state.specs.declared.repairs.Repair.TheVariants.{Within}
use Rattle.pm_state.proofs.Charged.{charged-none, due-judged}
use Rattle.pm_state.proofs.Regions.{elements-asked, users-asked, few-pairs}
use Rattle.pm_state.proofs.Repaired.{due-same, are-lists, are-live, anew-listed, if-both}
use Rattle.pm_state.proofs.repairs.judge_again.Goals as goal

pub update-requires-clause-region : goal.update-requires-clause-region
update-requires-clause-region c =
    let due = c.requires in
    rw (c.reach-reach.ensures.elements, c.reach-reach.ensures.assigned, due.asked.0)
    (c.region_live.ensures due.before c.args.graph.now due.change (relation_in c.args.graph.now) due.formed due.named due.led (λ n live. live))

pub update-requires-clause-users : goal.update-requires-clause-users
update-requires-clause-users c =
    rw (c.reach-reach.ensures.elements, c.reach-reach.ensures.assigned, c.in_ok-judge.ensures.graph, c.in_ok-users.ensures)
    (users-asked c.args.graph.now c.formed.ensures)

pub update-requires-clause-elements : goal.update-requires-clause-elements
update-requires-clause-elements c =
    rw (c.reach-reach.ensures.elements, c.reach-reach.ensures.assigned, c.in_ok-judge.ensures.graph, c.in_ok-elements.ensures)
    (elements-asked c.args.graph.now c.formed.ensures)

pub update-requires-clause-users_rise : goal.update-requires-clause-users_rise
update-requires-clause-users_rise c = rw (c.in_ok-users.ensures) (c.numbers_rise.ensures.users c.args.graph.now c.formed.ensures)

pub update-requires-clause-elements_rise : goal.update-requires-clause-elements_rise
update-requires-clause-elements_rise c = rw (c.in_ok-elements.ensures) (c.numbers_rise.ensures.elements c.args.graph.now c.formed.ensures)

pub update-requires-clause-room : goal.update-requires-clause-room
update-requires-clause-room c =
    let few = few-pairs c.args.graph.now c.formed.ensures in
    rw (c.in_ok-judge.ensures.asked, c.in_ok-users.ensures, c.in_ok-elements.ensures) (omega (arith, few))

pub update-requires-clause-lists : goal.update-requires-clause-lists
update-requires-clause-lists c =
    let L = c.args.lists in
    let H = c.args.graph.now in
    let due = c.requires in
    let same = due-same L H c.args.region.now due in
    rw (c.reach-reach.ensures.assigned, c.in_ok-judge.ensures.graph, c.in_ok-elements.ensures, c.in_ok-users.ensures, due.asked.0)
    (c.lists_right.ensures due.before H due.change due.formed due.named due.led L (are-lists L c.kept.ensures due.before due.listed)
    (are-live L c.kept.ensures due.before H c.formed.ensures same due.listed))

pub returns-then-not-are_touched-clause-charged : goal.returns-then-not-are_touched-clause-charged
returns-then-not-are_touched-clause-charged c = λ due.
    let L = c.args.lists in
    charged-none L L (judged_for due.before due.change) c.kept.ensures.few refl (c.are_touched.ensures.judged c.if-not-are_touched.true due)

pub returns-clause-listed : goal.returns-clause-listed
returns-clause-listed c =
    let L = c.args.lists in
    let H = c.args.graph.now in
    let due = c.requires in
    if-both c.update.result _ _ (λ (M : Lists). AreListed M H)
    (λ M caps entries. anew-listed L M H caps entries due.before (due-same L H c.args.region.now due) due.listed)
    (rw (c.in_ok-judge.ensures.graph, c.in_ok-elements.ensures) at c.update.ensures.caps)
    (rw (c.in_ok-judge.ensures.graph, c.in_ok-users.ensures) at c.update.ensures.entries)

pub returns-clause-charged : goal.returns-clause-charged
returns-clause-charged c =
    let L = c.args.lists in
    let H = c.args.graph.now in
    IfOk-weaker c.update.result _ (λ (M : Lists). IsCharged L M H (Within c.args.region.now)) (λ M charged due.
    rw (c.reach-reach.ensures.assigned, c.in_ok-elements.ensures, c.in_ok-users.ensures, ← due-judged L H c.args.region.now due) at charged)
    c.update.ensures.charged

pub returns-clause-were : goal.returns-clause-were
returns-clause-were c =
    let L = c.args.lists in
    let H = c.args.graph.now in
    if-both c.update.result _ _ (λ (M : Lists). KeepsWere L M)
    (λ M caps entries G. anew-were G (rights_in H) (numbers_in H.elements) (users_in H.elements) L M caps entries)
    (rw (c.in_ok-judge.ensures.graph, c.in_ok-elements.ensures) at c.update.ensures.caps)
    (rw (c.in_ok-judge.ensures.graph, c.in_ok-users.ensures) at c.update.ensures.entries)
