-- The privileges, less what is denied, as a number.
use Rattle.std.proofs.Common.{None, sym, ◌∙◌}
use Rattle.std.proofs.lemmas.Bool.{eqb-true}
use Rattle.std.specs.List.{list_any}
use Rattle.pm_model.specs.Decision.{privilege, forbids, associations_of}
use Rattle.pm_decide.proofs.RightSets.{held-none, held-without}
use Rattle.pm_given.proofs.held_on.HeldOn.rights.Goals as goal

pub returns-then-is_empty-clause-answer : goal.returns-then-is_empty-clause-answer
returns-then-is_empty-clause-answer g c =
    let below = (g.R.Reach.relation c.args.reach.now).below in
    let gs = g.G.Grants.grantees c.args.grants.now in
    held-none c.held-held.result
    (λ r. privilege below (associations_of gs) c.args.classes.now c.args.user r c.args.element)
    (λ r. list_any (forbids below c.args.user None r c.args.element) (g.B.Bars.prohibitions c.args.bars.now))
    c.held-held.ensures.answer (eqb-true c.held-held.result 0 (sym c.is_empty.ensures ∙ c.if-is_empty.true))

pub returns-clause-answer : goal.returns-clause-answer
returns-clause-answer g c =
    let below = (g.R.Reach.relation c.args.reach.now).below in
    let gs = g.G.Grants.grantees c.args.grants.now in
    held-without c.held-held.result c.rights_denied-denied.result c.without.result
    (λ r. privilege below (associations_of gs) c.args.classes.now c.args.user r c.args.element)
    (λ r. list_any (forbids below c.args.user None r c.args.element) (g.B.Bars.prohibitions c.args.bars.now))
    c.held-held.ensures.answer (rw c.held-held.ensures.same at c.rights_denied-denied.ensures.answer)
    c.without.ensures.answer c.without.ensures.small
