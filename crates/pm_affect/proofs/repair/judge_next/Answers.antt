use Rattle.std.proofs.Common.{refl, arith}
use Rattle.pm_affect.specs.Judged.{in_scope}
use Rattle.pm_affect.proofs.Rows.{judged-passed}
use Rattle.pm_affect.proofs.repair.judge_next.Goals as goal

pub returns-then-passes-clause-lists : goal.returns-then-passes-clause-lists
returns-then-passes-clause-lists g c =
    rw (judged-passed (g.R.Reach.relation c.args.reach.now).below c.args.region.now (in_scope c.args.lists.now) c.args.user c.args.elements.now.all.now (c.if-passes.ensures.none refl)) refl

pub returns-then-passes-clause-count : goal.returns-then-passes-clause-count
returns-then-passes-clause-count g c =
    rw (judged-passed (g.R.Reach.relation c.args.reach.now).below c.args.region.now (in_scope c.args.lists.now) c.args.user c.args.elements.now.all.now (c.if-passes.ensures.none refl)) refl

pub returns-then-passes-clause-asked : goal.returns-then-passes-clause-asked
returns-then-passes-clause-asked g c =
    rw (judged-passed (g.R.Reach.relation c.args.reach.now).below c.args.region.now (in_scope c.args.lists.now) c.args.user c.args.elements.now.all.now (c.if-passes.ensures.none refl)) (omega arith)

pub judge_user-requires-clause-near : goal.judge_user-requires-clause-near
judge_user-requires-clause-near g c = rw c.passes.ensures.same c.requires.near
