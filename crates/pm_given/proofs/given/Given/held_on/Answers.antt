-- What the only container has.
use Rattle.std.proofs.Common.{None, sym, ◌∙◌}
use Rattle.pm_given.proofs.Sources.{held-only}
use Rattle.pm_given.proofs.given.Given.held_on.Goals as goal

pub returns-in-Some-clause-answer : goal.returns-in-Some-clause-answer
returns-in-Some-clause-answer g c = λ L told held.
    held-only (g.R.Reach.relation c.args.reach.now) (g.P.Parents.live c.args.parents.now) (g.P.Parents.assigned c.args.parents.now) c.args.classes.now
    c.requires.parents c.args.element c.in-Some.container c.in-Some.ensures.only L (sym (told None c.args.element) ∙ c.in-Some.ensures.unmarked)
    c.held_once.result (c.held_once.ensures.answer L told held)
