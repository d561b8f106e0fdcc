use Rattle.pm_decide.proofs.Nexts.{next_within}
use Rattle.pm_decide.proofs.classes.next_on.Goals as goal

pub returns-clause-within : goal.returns-clause-within
returns-clause-within g c =
    next_within (g.R.Reach.relation c.args.reach.now).below c.args.right c.args.element c.args.grants.now c.first_on.result c.first_on.ensures.answer
