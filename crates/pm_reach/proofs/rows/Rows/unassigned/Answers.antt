-- One element more.
use Rattle.std.proofs.Common.{◌∙◌, ap, ◌||◌, ◌==◌}
use Rattle.pm_reach.proofs.Openings.{added-alone, lt-next, not-below}
use Rattle.pm_reach.proofs.rows.Rows.unassigned.Goals as goal

pub loop-x-preserved : goal.loop-x-preserved
loop-x-preserved c = record {
  live = λ y. c.in_ok-on_add.ensures.rows.live y ∙ ap (λ b. y == c.loop-x.x || b) (c.loop-x.invariant.live y) ∙ lt-next y c.loop-x.x;
  rows = added-alone c.loop-x.rows.rows c.on_add.new.self.rows c.loop-x.x (c.loop-x.invariant.live c.loop-x.x ∙ not-below c.loop-x.x) c.loop-x.invariant.rows c.in_ok-on_add.ensures.rows;
}
