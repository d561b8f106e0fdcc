use Rattle.std.proofs.Common.{◌<◌, ◌∙◌, arith}
use Rattle.std.proofs.lemmas.Bool.{lt-ltb}
use Rattle.pm_reach.proofs.Openings.{assigned_more}
use Rattle.pm_graph_tests.proofs.reach.assigned.Goals as goal

pub invariant_of-result-2 : goal.invariant_of-result-2
invariant_of-result-2 g c =
    let small : c.args.y < 256 = omega (arith, c.ranges.y.fits) in
    record {
      live = λ z. c.assign_in_steps.ensures.live z ∙ c.args.graph.live z;
      told = rw c.put_first.ensures (assigned_more c.args.graph.pairs.items c.args.graph.rows.rows c.assign_in_steps.new.rows.rows c.args.x c.args.y (c.args.graph.live c.args.y ∙ lt-ltb c.args.y 256 small) c.args.graph.told c.assign_in_steps.ensures);
    }
