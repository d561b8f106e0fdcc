use Rattle.std.proofs.Common.{sym}
use Rattle.std.proofs.lemmas.List.Elements.{All-filter}
use Rattle.pm_affect.specs.Affected.{is_in}
use Rattle.pm_affect.specs.Lists.{is_among, subjects}
use Rattle.pm_affect.specs.Live.{IsJudged}
use Rattle.pm_affect.proofs.Rows.{row-caps, row-entries}
use Rattle.pm_affect.proofs.repair.judge_user.Goals as goal

pub judge_columns-requires-clause-room : goal.judge_columns-requires-clause-room
judge_columns-requires-clause-room g c =
    rw (row-caps (is_in (g.R.Reach.relation c.args.reach.now).below c.args.region.now) (subjects c.args.lists.now.caps) (subjects c.args.lists.now.entries) c.args.user c.args.elements.now.all.now (sym c.if-has_caps.ensures))
    c.requires.room

pub returns-then-has_caps-clause-lists : goal.returns-then-has_caps-clause-lists
returns-then-has_caps-clause-lists g c =
    rw (row-caps (is_in (g.R.Reach.relation c.args.reach.now).below c.args.region.now) (subjects c.args.lists.now.caps) (subjects c.args.lists.now.entries) c.args.user c.args.elements.now.all.now (sym c.if-has_caps.ensures))
    at c.judge_columns.ensures.lists

pub returns-then-has_caps-clause-count : goal.returns-then-has_caps-clause-count
returns-then-has_caps-clause-count g c =
    rw (row-caps (is_in (g.R.Reach.relation c.args.reach.now).below c.args.region.now) (subjects c.args.lists.now.caps) (subjects c.args.lists.now.entries) c.args.user c.args.elements.now.all.now (sym c.if-has_caps.ensures))
    at c.judge_columns.ensures.count

pub returns-then-has_caps-clause-asked : goal.returns-then-has_caps-clause-asked
returns-then-has_caps-clause-asked g c =
    rw (row-caps (is_in (g.R.Reach.relation c.args.reach.now).below c.args.region.now) (subjects c.args.lists.now.caps) (subjects c.args.lists.now.entries) c.args.user c.args.elements.now.all.now (sym c.if-has_caps.ensures))
    at c.judge_columns.ensures.asked

pub judge_columns-requires-2-clause-elements : goal.judge_columns-requires-2-clause-elements
judge_columns-requires-2-clause-elements g c =
    rw c.requires.places (All-filter (is_among (subjects c.args.lists.now.entries)) (IsJudged (g.J.Judge.judgement c.args.judge.now)) c.args.elements.now.all.now c.requires.elements)

pub judge_columns-requires-2-clause-room : goal.judge_columns-requires-2-clause-room
judge_columns-requires-2-clause-room g c =
    rw (c.requires.places, row-entries (is_in (g.R.Reach.relation c.args.reach.now).below c.args.region.now) (subjects c.args.lists.now.caps) (subjects c.args.lists.now.entries) c.args.user c.args.elements.now.all.now (sym c.if-has_caps.ensures))
    c.requires.room

pub returns-clause-lists : goal.returns-clause-lists
returns-clause-lists g c =
    rw (c.requires.places, row-entries (is_in (g.R.Reach.relation c.args.reach.now).below c.args.region.now) (subjects c.args.lists.now.caps) (subjects c.args.lists.now.entries) c.args.user c.args.elements.now.all.now (sym c.if-has_caps.ensures))
    at c.judge_columns-2.ensures.lists

pub returns-clause-count : goal.returns-clause-count
returns-clause-count g c =
    rw (c.requires.places, row-entries (is_in (g.R.Reach.relation c.args.reach.now).below c.args.region.now) (subjects c.args.lists.now.caps) (subjects c.args.lists.now.entries) c.args.user c.args.elements.now.all.now (sym c.if-has_caps.ensures))
    at c.judge_columns-2.ensures.count

pub returns-clause-asked : goal.returns-clause-asked
returns-clause-asked g c =
    rw (c.requires.places, row-entries (is_in (g.R.Reach.relation c.args.reach.now).below c.args.region.now) (subjects c.args.lists.now.caps) (subjects c.args.lists.now.entries) c.args.user c.args.elements.now.all.now (sym c.if-has_caps.ensures))
    at c.judge_columns-2.ensures.asked
