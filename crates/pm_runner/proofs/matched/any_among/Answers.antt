use Rattle.std.proofs.Common.{sym, ◌∙◌}
use Rattle.std.proofs.lemmas.List.{take_all}
use Rattle.pm_runner.specs.Standing.{is_match}
use Rattle.pm_runner.proofs.AnyMatch.{one-passes, none-yet}
use Rattle.pm_runner.proofs.matched.any_among.Goals as goal

pub returns-then-matches-clause-answer : goal.returns-then-matches-clause-answer
returns-then-matches-clause-answer g c =
    one-passes (is_match (g.R.Reach.relation c.args.reach.now).below c.args.event.now) c.args.items.now c.loop-item.item-index c.item-item.result
    c.loop-item-test.true c.item-item.is (rw c.loop-item.invariant.same at c.if-matches.ensures.answer)

pub loop-item-preserved : goal.loop-item-preserved
loop-item-preserved g c = record {
  same = c.matches.ensures.same ∙ c.loop-item.invariant.same;
  none = none-yet (is_match (g.R.Reach.relation c.args.reach.now).below c.args.event.now) c.args.items.now c.loop-item.item-index c.item-item.result
      c.loop-item-test.true c.item-item.is c.loop-item.invariant.none (rw c.loop-item.invariant.same at c.if-matches.ensures.answer);
}

pub returns-clause-answer : goal.returns-clause-answer
returns-clause-answer g c =
    sym (rw (take_all c.loop-item.item-index c.args.items.now c.loop-item-test.false) at c.loop-item.invariant.none)
