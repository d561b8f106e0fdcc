use Rattle.pm_decide.proofs.Passed.{left-all}
use Rattle.pm_decide.proofs.classes.left_by_grantee.Goals as goal

pub returns-then-not-may_be_on-clause-left : goal.returns-then-not-may_be_on-clause-left
returns-then-not-may_be_on-clause-left g c =
    left-all (g.R.Reach.relation c.args.reach.now).below c.args.element c.args.classes.now c.args.unmet c.args.right c.args.grantee.now
    (c.may_be_on.ensures.none c.if-not-may_be_on.true)
