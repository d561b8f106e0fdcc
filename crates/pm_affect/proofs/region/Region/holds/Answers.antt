use Rattle.pm_affect.proofs.Rows.{in-empty, in-whole}
use Rattle.pm_affect.proofs.region.Region.holds.Goals as goal

pub returns-in-Empty-clause-answer : goal.returns-in-Empty-clause-answer
returns-in-Empty-clause-answer g c = in-empty (g.R.Reach.relation c.args.reach.now).below c.args.self.now c.args.user c.args.element c.in-Empty.ensures.answer

pub returns-in-Whole-clause-answer : goal.returns-in-Whole-clause-answer
returns-in-Whole-clause-answer g c = in-whole (g.R.Reach.relation c.args.reach.now).below c.args.self.now c.args.user c.args.element c.in-Whole.ensures.answer
