-- What is given in each class, less what is denied, as a number; and what is known stays right.
use Rattle.std.proofs.Common.{None, sym, ◌∙◌}
use Rattle.std.proofs.lemmas.Bool.{eqb-true}
use Rattle.std.specs.List.{list_any}
use Rattle.pm_model.specs.Decision.{privilege, forbids, associations_of}
use Rattle.pm_decide.specs.Sets.{IsSetOf}
use Rattle.pm_decide.proofs.RightSets.{held-none, held-without, set-same}
use Rattle.pm_given.specs.Given.{given}
use Rattle.pm_given.specs.Held.{AreHeld}
use Rattle.pm_given.proofs.Grants.{held-privilege, marked-live}
use Rattle.pm_given.proofs.Sources.{of-one}
use Rattle.pm_given.proofs.given.Given.rights.Goals as goal

pub held_on-held-requires-clause-live : goal.held_on-held-requires-clause-live
held_on-held-requires-clause-live g c =
    rw c.turn_to.ensures.same (marked-live (g.R.Reach.relation c.args.reach.now) c.args.user (g.G.Grants.grantees c.args.grants.now) c.requires.asked.grants
    c.turn_to.new.self.own c.turn_to.new.self.marks c.turn_to.ensures.told)

pub returns-then-is_empty-clause-answer : goal.returns-then-is_empty-clause-answer
returns-then-is_empty-clause-answer g c =
    let below = (g.R.Reach.relation c.args.reach.now).below in
    let gs = g.G.Grants.grantees c.args.grants.now in
    let held = set-same c.held_on-held.result _ (λ r. privilege below (associations_of gs) c.args.classes.now c.args.user r c.args.element)
    (rw c.turn_to.ensures.same at (c.held_on-held.ensures.answer (given below c.args.user gs) c.turn_to.ensures.told (rw c.turn_to.ensures.same (c.turn_to.ensures.known c.args.classes.now c.requires.known))))
    (held-privilege below gs c.args.classes.now c.args.user c.args.element) in
    held-none c.held_on-held.result
    (λ r. privilege below (associations_of gs) c.args.classes.now c.args.user r c.args.element)
    (λ r. list_any (forbids below c.args.user None r c.args.element) (g.B.Bars.prohibitions c.args.bars.now))
    held (eqb-true c.held_on-held.result 0 (sym c.is_empty.ensures ∙ c.if-is_empty.true))

pub returns-clause-answer : goal.returns-clause-answer
returns-clause-answer g c =
    let below = (g.R.Reach.relation c.args.reach.now).below in
    let gs = g.G.Grants.grantees c.args.grants.now in
    let held = set-same c.held_on-held.result _ (λ r. privilege below (associations_of gs) c.args.classes.now c.args.user r c.args.element)
    (rw c.turn_to.ensures.same at (c.held_on-held.ensures.answer (given below c.args.user gs) c.turn_to.ensures.told (rw c.turn_to.ensures.same (c.turn_to.ensures.known c.args.classes.now c.requires.known))))
    (held-privilege below gs c.args.classes.now c.args.user c.args.element) in
    held-without c.held_on-held.result c.rights_denied-denied.result c.without.result
    (λ r. privilege below (associations_of gs) c.args.classes.now c.args.user r c.args.element)
    (λ r. list_any (forbids below c.args.user None r c.args.element) (g.B.Bars.prohibitions c.args.bars.now))
    held (rw (c.held_on-held.ensures.same, c.turn_to.ensures.same) at c.rights_denied-denied.ensures.answer)
    c.without.ensures.answer c.without.ensures.small

pub returns-then-is_empty-clause-known : goal.returns-then-is_empty-clause-known
returns-then-is_empty-clause-known g c =
    let below = (g.R.Reach.relation c.args.reach.now).below in
    let gs = g.G.Grants.grantees c.args.grants.now in
    rw (c.held_on-held.ensures.user, c.turn_to.ensures.user)
    (of-one (λ u. AreHeld below c.args.classes.now (given below u gs) c.held_on-held.new.self.found c.held_on-held.new.self.known) c.args.user
    (rw c.turn_to.ensures.same at (c.held_on-held.ensures.known (given below c.args.user gs) c.turn_to.ensures.told
    (rw c.turn_to.ensures.same (c.turn_to.ensures.known c.args.classes.now c.requires.known)))))

pub returns-clause-known : goal.returns-clause-known
returns-clause-known g c =
    let below = (g.R.Reach.relation c.args.reach.now).below in
    let gs = g.G.Grants.grantees c.args.grants.now in
    rw (c.held_on-held.ensures.user, c.turn_to.ensures.user)
    (of-one (λ u. AreHeld below c.args.classes.now (given below u gs) c.held_on-held.new.self.found c.held_on-held.new.self.known) c.args.user
    (rw c.turn_to.ensures.same at (c.held_on-held.ensures.known (given below c.args.user gs) c.turn_to.ensures.told
    (rw c.turn_to.ensures.same (c.turn_to.ensures.known c.args.classes.now c.requires.known)))))
