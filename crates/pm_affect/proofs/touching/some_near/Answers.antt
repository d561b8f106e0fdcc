use Rattle.std.proofs.Common.{◌∙◌, length, refl}
use Rattle.std.proofs.lemmas.Option.{slice_get_read}
use Rattle.pm_decide.proofs.Walks.{any-no, any-yes}
use Rattle.pm_decide.specs.Live.{IsLive}
use Rattle.pm_affect.specs.Lists.{subjects}
use Rattle.pm_affect.specs.Rows.{near_on}
use Rattle.pm_affect.proofs.Edits.{subject-at}
use Rattle.pm_affect.proofs.Walk.{all-at}
use Rattle.pm_affect.proofs.touching.some_near.Goals as goal

pub finds_near-requires-clause-x : goal.finds_near-requires-clause-x
finds_near-requires-clause-x g c =
    let there = slice_get_read c.args.items.now (length c.args.items.now) _ c.index-items-i.result refl c.loop-i-test.true c.index-items-i.is in
    rw (c.loop-i.invariant.same, c.subject.ensures)
    (all-at (IsLive (g.R.Reach.relation c.args.reach.now)) (subjects c.args.items.now) c.loop-i.i c.index-items-i.result.subject c.requires.live
    (subject-at c.args.items.now c.loop-i.i c.index-items-i.result there))

pub returns-then-finds_near-clause-answer : goal.returns-then-finds_near-clause-answer
returns-then-finds_near-clause-answer g c =
    let there = slice_get_read c.args.items.now (length c.args.items.now) _ c.index-items-i.result refl c.loop-i-test.true c.index-items-i.is in
    any-yes (near_on c.args.side (g.R.Reach.relation c.args.reach.now).below c.args.region.now) (subjects c.args.items.now) c.loop-i.i c.index-items-i.result.subject
    c.loop-i.invariant.rest (subject-at c.args.items.now c.loop-i.i c.index-items-i.result there)
    (rw (c.loop-i.invariant.same, c.subject.ensures) at c.if-finds_near.ensures.answer)

pub loop-i-preserved : goal.loop-i-preserved
loop-i-preserved g c =
    let there = slice_get_read c.args.items.now (length c.args.items.now) _ c.index-items-i.result refl c.loop-i-test.true c.index-items-i.is in record {
      rest = any-no (near_on c.args.side (g.R.Reach.relation c.args.reach.now).below c.args.region.now) (subjects c.args.items.now) c.loop-i.i c.index-items-i.result.subject
          c.loop-i.invariant.rest (subject-at c.args.items.now c.loop-i.i c.index-items-i.result there)
          (rw (c.loop-i.invariant.same, c.subject.ensures) at c.if-finds_near.ensures.answer);
      passed = rw c.loop-i.invariant.same at c.finds_near.ensures.passed;
      same = c.finds_near.ensures.same ∙ c.loop-i.invariant.same;
    }
