use Rattle.std.proofs.Common.{◌∙◌}
use Rattle.pm_affect.specs.Rows.{is_near}
use Rattle.pm_affect.proofs.Passing.{filter-here, filter-later}
use Rattle.pm_affect.proofs.repair.near.Goals as goal
use Rattle.pm_affect.proofs.repair.near.Goals.{then-finds_near+in_ok-push, else-finds_near}

pub loop-i-preserved : goal.loop-i-preserved
loop-i-preserved g c =
    let test = is_near (g.R.Reach.relation c.args.reach.now).below c.args.region.now in record {
      so_far = elim c.if-finds_near.branch [
        | then-finds_near+in_ok-push w ↦
            rw (w.near-is, w.in_ok-push.ensures.ok)
            (filter-here test c.args.elements.now c.loop-i.i c.at-element.result.now c.loop-i.near c.at-element.ensures
            (rw c.loop-i.invariant.same at w.if-finds_near.ensures.answer))
            ∙ c.loop-i.invariant.so_far
        | else-finds_near w ↦
            rw w.near-is
            (filter-later test c.args.elements.now c.loop-i.i c.at-element.result.now c.loop-i.near c.at-element.ensures
            (rw c.loop-i.invariant.same at w.if-finds_near.ensures.answer))
            ∙ c.loop-i.invariant.so_far
      ];
      passed = rw c.loop-i.invariant.same at c.finds_near.ensures.passed;
      same = c.finds_near.ensures.same ∙ c.loop-i.invariant.same;
    }
