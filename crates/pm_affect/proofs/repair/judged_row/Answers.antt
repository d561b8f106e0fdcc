use Rattle.std.proofs.Common.{◌∙◌, arith}
use Rattle.pm_affect.proofs.Merging.{judged-more}
use Rattle.pm_affect.proofs.repair.judged_row.Goals as goal

pub loop-n-preserved : goal.loop-n-preserved
loop-n-preserved g c =
    let pushed = rw (c.judge-rights.ensures.answer, c.loop-n.invariant.same) at c.in_ok-push.ensures.ok in
    record {
      row = judged-more ((g.J.Judge.judgement c.args.judge.now).rights c.args.user) c.args.elements.now c.loop-n.n c.at-element.result.now c.loop-n.row _ _
          c.at-element.ensures pushed c.loop-n.invariant.row;
      asked = let counted = c.judge-rights.ensures.counted in omega (arith, counted, c.loop-n.invariant.asked);
      same = c.judge-rights.ensures.same ∙ c.loop-n.invariant.same;
    }
