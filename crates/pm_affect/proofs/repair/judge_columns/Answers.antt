use Rattle.std.proofs.Common.{filter, ap, sym, arith, refl}
use Rattle.std.proofs.lemmas.List.Elements.{All-filter}
use Rattle.pm_affect.specs.Live.{IsJudged}
use Rattle.pm_affect.specs.Rows.{is_near, is_near_row}
use Rattle.pm_affect.proofs.Rows.{length-row, row-empty, row-near, row-whole}
use Rattle.pm_affect.proofs.repair.judge_columns.Goals as goal

pub judge_row-requires-clause-elements : goal.judge_row-requires-clause-elements
judge_row-requires-clause-elements g c =
    rw (c.requires.near (ap is_near_row (sym c.in-Near.ensures.answer)))
    (All-filter (is_near (g.R.Reach.relation c.args.reach.now).below c.args.region.now) (IsJudged (g.J.Judge.judgement c.args.judge.now)) c.args.columns.now.all.now c.requires.elements)

pub judge_row-requires-clause-room : goal.judge_row-requires-clause-room
judge_row-requires-clause-room g c =
    rw (c.requires.near (ap is_near_row (sym c.in-Near.ensures.answer)))
    (rw (row-near (g.R.Reach.relation c.args.reach.now).below c.args.region.now c.args.user c.args.columns.now.all.now c.in-Near.ensures.answer, length-row c.args.user (filter (is_near (g.R.Reach.relation c.args.reach.now).below c.args.region.now) c.args.columns.now.all.now))
    at c.requires.room)

pub returns-in-Near-clause-lists : goal.returns-in-Near-clause-lists
returns-in-Near-clause-lists g c =
    rw (row-near (g.R.Reach.relation c.args.reach.now).below c.args.region.now c.args.user c.args.columns.now.all.now c.in-Near.ensures.answer)
    (rw (c.requires.near (ap is_near_row (sym c.in-Near.ensures.answer))) at c.judge_row.ensures.lists)

pub returns-in-Near-clause-count : goal.returns-in-Near-clause-count
returns-in-Near-clause-count g c =
    rw (row-near (g.R.Reach.relation c.args.reach.now).below c.args.region.now c.args.user c.args.columns.now.all.now c.in-Near.ensures.answer, length-row c.args.user (filter (is_near (g.R.Reach.relation c.args.reach.now).below c.args.region.now) c.args.columns.now.all.now))
    (rw (c.requires.near (ap is_near_row (sym c.in-Near.ensures.answer))) at c.judge_row.ensures.count)

pub returns-in-Near-clause-asked : goal.returns-in-Near-clause-asked
returns-in-Near-clause-asked g c =
    rw (row-near (g.R.Reach.relation c.args.reach.now).below c.args.region.now c.args.user c.args.columns.now.all.now c.in-Near.ensures.answer, length-row c.args.user (filter (is_near (g.R.Reach.relation c.args.reach.now).below c.args.region.now) c.args.columns.now.all.now))
    (rw (c.requires.near (ap is_near_row (sym c.in-Near.ensures.answer))) at c.judge_row.ensures.asked)

pub judge_row-requires-in-Whole-clause-room : goal.judge_row-requires-in-Whole-clause-room
judge_row-requires-in-Whole-clause-room g c =
    rw (row-whole (g.R.Reach.relation c.args.reach.now).below c.args.region.now c.args.user c.args.columns.now.all.now c.in-Whole.ensures.answer, length-row c.args.user c.args.columns.now.all.now)
    at c.requires.room

pub returns-in-Empty-clause-lists : goal.returns-in-Empty-clause-lists
returns-in-Empty-clause-lists g c =
    rw (row-empty (g.R.Reach.relation c.args.reach.now).below c.args.region.now c.args.user c.args.columns.now.all.now c.in-Empty.ensures.answer)

pub returns-in-Empty-clause-count : goal.returns-in-Empty-clause-count
returns-in-Empty-clause-count g c =
    rw (row-empty (g.R.Reach.relation c.args.reach.now).below c.args.region.now c.args.user c.args.columns.now.all.now c.in-Empty.ensures.answer)

pub returns-in-Empty-clause-asked : goal.returns-in-Empty-clause-asked
returns-in-Empty-clause-asked g c =
    rw (row-empty (g.R.Reach.relation c.args.reach.now).below c.args.region.now c.args.user c.args.columns.now.all.now c.in-Empty.ensures.answer) (omega arith)

pub returns-in-Whole-clause-lists : goal.returns-in-Whole-clause-lists
returns-in-Whole-clause-lists g c =
    rw (row-whole (g.R.Reach.relation c.args.reach.now).below c.args.region.now c.args.user c.args.columns.now.all.now c.in-Whole.ensures.answer)
    c.judge_row-in-Whole.ensures.lists

pub returns-in-Whole-clause-count : goal.returns-in-Whole-clause-count
returns-in-Whole-clause-count g c =
    rw (row-whole (g.R.Reach.relation c.args.reach.now).below c.args.region.now c.args.user c.args.columns.now.all.now c.in-Whole.ensures.answer, length-row c.args.user c.args.columns.now.all.now)
    c.judge_row-in-Whole.ensures.count

pub returns-in-Whole-clause-asked : goal.returns-in-Whole-clause-asked
returns-in-Whole-clause-asked g c =
    rw (row-whole (g.R.Reach.relation c.args.reach.now).below c.args.region.now c.args.user c.args.columns.now.all.now c.in-Whole.ensures.answer, length-row c.args.user c.args.columns.now.all.now)
    c.judge_row-in-Whole.ensures.asked

pub returns-then-are_none-clause-lists : goal.returns-then-are_none-clause-lists
returns-then-are_none-clause-lists g c =
    rw (c.if-are_none.ensures refl (g.R.Reach.relation c.args.reach.now).below c.args.user c.requires.near) refl

pub returns-then-are_none-clause-count : goal.returns-then-are_none-clause-count
returns-then-are_none-clause-count g c =
    rw (c.if-are_none.ensures refl (g.R.Reach.relation c.args.reach.now).below c.args.user c.requires.near) refl

pub returns-then-are_none-clause-asked : goal.returns-then-are_none-clause-asked
returns-then-are_none-clause-asked g c =
    rw (c.if-are_none.ensures refl (g.R.Reach.relation c.args.reach.now).below c.args.user c.requires.near) (omega arith)
