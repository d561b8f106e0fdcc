use Rattle.pm_decide.proofs.Passed.{none-on}
use Rattle.pm_decide.proofs.places.may_be_on.Goals as goal

pub returns-then-places-len-clause-none : goal.returns-then-places-len-clause-none
returns-then-places-len-clause-none g c none =
    none-on (g.R.Reach.relation c.args.reach.now).below c.args.element c.places-places.result.now c.args.grants.now
    (c.places-places.ensures c.if-places-gt0.true) (c.some_contains.ensures.none none)
