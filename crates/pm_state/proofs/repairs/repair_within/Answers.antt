use Rattle.std.proofs.Common.{refl, subst}
use Rattle.pm_affect.specs.Counting.{judged_for}
use Rattle.pm_affect.specs.declared.region.Region.{Region}
use Rattle.pm_state.specs.Repairs.{IsDue}
use Rattle.pm_state.specs.declared.repairs.Repair.TheVariants.{Within}
use Rattle.pm_state.proofs.Charged.{charged-none, due-empty-judged, due-nothing-judged}
use Rattle.pm_state.proofs.Repaired.{due-none, due-nothing}
use Rattle.pm_state.proofs.repairs.repair_within.Goals as goal

pub returns-then-is_empty-clause-listed : goal.returns-then-is_empty-clause-listed
returns-then-is_empty-clause-listed c =
    due-none c.args.lists c.args.graph.now c.args.region.now c.requires (rw (c.kept-2.ensures) at (c.is_empty.ensures.none c.if-is_empty.true))

pub returns-then-is_empty-clause-charged : goal.returns-then-is_empty-clause-charged
returns-then-is_empty-clause-charged c = λ due.
    let L = c.args.lists in
    charged-none L L (judged_for due.before due.change) c.kept.ensures.few refl
    (due-empty-judged L c.args.graph.now c.args.region.now due (rw (c.kept-2.ensures) at (c.is_empty.ensures.none c.if-is_empty.true)))

pub returns-in-Nothing-clause-listed : goal.returns-in-Nothing-clause-listed
returns-in-Nothing-clause-listed c =
    let L = c.args.lists in
    let H = c.args.graph.now in
    due-nothing L H c.rights_outside.ensures (subst (λ (region : Region). IsDue L H (Within region)) c.in-Nothing.is c.requires)

pub returns-in-Nothing-clause-charged : goal.returns-in-Nothing-clause-charged
returns-in-Nothing-clause-charged c =
    let L = c.args.lists in
    let H = c.args.graph.now in
    rw (c.in-Nothing.is) (λ due. charged-none L L (judged_for due.before due.change) c.kept.ensures.few refl (due-nothing-judged L H due))
