-- What is held and not denied, as a number.
use Rattle.std.proofs.Common.{None, sym, ◌∙◌}
use Rattle.std.proofs.lemmas.Bool.{eqb-true}
use Rattle.std.specs.List.{list_any}
use Rattle.pm_model.specs.Decision.{privilege, forbids, associations_of}
use Rattle.pm_decide.proofs.RightSets.{held-none, held-without}
use Rattle.pm_decide.proofs.rights.rights_of.Goals as goal

pub returns-then-is_empty-clause-answer : goal.returns-then-is_empty-clause-answer
returns-then-is_empty-clause-answer g c =
    let below = (g.R.Reach.relation c.args.reach.now).below in
    let associations = associations_of (g.G.Grants.grantees c.args.grants.now) in
    let bars = g.B.Bars.prohibitions c.args.bars.now in
    held-none c.privileges_of-held.result
    (λ r. privilege below associations c.args.classes.now c.args.user r c.args.element)
    (λ r. list_any (forbids below c.args.user None r c.args.element) bars)
    c.privileges_of-held.ensures.answer (eqb-true c.privileges_of-held.result 0 (sym c.is_empty.ensures ∙ c.if-is_empty.true))

pub returns-clause-answer : goal.returns-clause-answer
returns-clause-answer g c =
    let below = (g.R.Reach.relation c.args.reach.now).below in
    let associations = associations_of (g.G.Grants.grantees c.args.grants.now) in
    let bars = g.B.Bars.prohibitions c.args.bars.now in
    held-without c.privileges_of-held.result c.rights_denied-denied.result c.without.result
    (λ r. privilege below associations c.args.classes.now c.args.user r c.args.element)
    (λ r. list_any (forbids below c.args.user None r c.args.element) bars)
    c.privileges_of-held.ensures.answer (rw c.privileges_of-held.ensures.same at c.rights_denied-denied.ensures.answer)
    c.without.ensures.answer c.without.ensures.small
