use Rattle.pm_decide.proofs.Passed.{rights-none}
use Rattle.pm_decide.proofs.rights.rights_of_grantee.Goals as goal

pub returns-then-not-may_be_on-clause-answer : goal.returns-then-not-may_be_on-clause-answer
returns-then-not-may_be_on-clause-answer g c =
    rights-none (g.R.Reach.relation c.args.reach.now).below c.args.element c.args.class c.args.grantee.now (c.may_be_on.ensures.none c.if-not-may_be_on.true)
