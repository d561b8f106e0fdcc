use Rattle.pm_model.specs.Decision.{associations_of, privilege}
use Rattle.pm_decide.specs.Sets.{IsSetOf}
use Rattle.pm_given.proofs.Bits.{rights-free}
use Rattle.pm_given.proofs.held_on.privileges.Goals as goal

pub returns-clause-answer : goal.returns-clause-answer
returns-clause-answer g c =
    let below = (g.R.Reach.relation c.args.reach.now).below in
    let gs = g.G.Grants.grantees c.args.grants.now in
    rw c.rights_of.ensures.answer (rights-free below (associations_of gs) c.args.classes.now c.args.user c.args.element)
