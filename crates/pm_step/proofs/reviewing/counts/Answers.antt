use Rattle.std.proofs.Common.{arith}
use Rattle.pm_model.specs.Formed.{IsLive}
use Rattle.pm_model.specs.Reviews.{numbers_in}
use Rattle.pm_laws.proofs.Items.{each-all}
use Rattle.pm_laws.proofs.Reviewed.{elements_live}
use Rattle.pm_state.proofs.Listing.{few-elements}
use Rattle.pm_step.proofs.reviewing.counts.Goals as goal

pub bulk-requires-clause-users : goal.bulk-requires-clause-users
bulk-requires-clause-users g c κs lives = rw (c.new-judge.ensures.graph) (each-all (IsLive c.args.graph.now.elements) c.args.users.now c.requires)

pub bulk-requires-clause-elements : goal.bulk-requires-clause-elements
bulk-requires-clause-elements g c κs lives =
    let G = c.args.graph.now in
    rw (c.new-judge.ensures.graph, c.in_ok-elements.ensures)
    (each-all (IsLive G.elements) (numbers_in G.elements) (elements_live G c.formed.ensures))

pub bulk-requires-clause-few : goal.bulk-requires-clause-few
bulk-requires-clause-few g c = rw (c.in_ok-elements.ensures) (omega (arith, few-elements c.args.graph.now c.formed.ensures))
