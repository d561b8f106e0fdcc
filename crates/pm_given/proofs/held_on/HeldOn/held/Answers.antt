-- What the only container has.
use Rattle.pm_given.proofs.Sources.{privilege-only}
use Rattle.pm_given.proofs.held_on.HeldOn.held.Goals as goal

pub returns-in-Some-clause-answer : goal.returns-in-Some-clause-answer
returns-in-Some-clause-answer g c =
    privilege-only (g.R.Reach.relation c.args.reach.now) (g.P.Parents.live c.args.parents.now) (g.P.Parents.assigned c.args.parents.now) c.args.classes.now
    c.requires.parents c.args.user c.in-Some.container c.in-Some.ensures.only (g.G.Grants.grantees c.args.grants.now) c.in-Some.ensures.apart
    c.args.element c.held_once.result c.held_once.ensures.answer
