-- One element more.
use Rattle.std.proofs.Common.{◌∙◌, ap, ◌||◌, ◌==◌}
use Rattle.pm_reach.specs.Changes.{Adds}
use Rattle.pm_reach.proofs.Openings.{lt-next, not-below}
use Rattle.pm_graph_tests.proofs.OpeningRows.{added}
use Rattle.pm_graph_tests.proofs.reach.rows_of.Goals as goal

pub loop-x-preserved : goal.loop-x-preserved
loop-x-preserved g c =
    let adds : Adds c.loop-x.x c.loop-x.rows.rows c.on_add.new.self.rows = rw c.expect.ensures at c.on_add.ensures.rows in
    record {
      live = λ y. adds.live y ∙ ap (λ b. y == c.loop-x.x || b) (c.loop-x.invariant.live y) ∙ lt-next y c.loop-x.x;
      rows = added c.loop-x.rows.rows c.on_add.new.self.rows c.loop-x.x c.loop-x.auto.x (c.loop-x.invariant.live c.loop-x.x ∙ not-below c.loop-x.x) c.loop-x.invariant.rows adds;
    }
