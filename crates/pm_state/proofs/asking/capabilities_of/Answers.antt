use Rattle.pm_model.specs.Formed.{IsLive}
use Rattle.pm_model.specs.Reviews.{numbers_in}
use Rattle.pm_laws.proofs.Items.{each-all}
use Rattle.pm_laws.proofs.Reviewed.{elements_live}
use Rattle.pm_state.proofs.asking.capabilities_of.Goals as goal

pub capabilities-requires-clause-elements : goal.capabilities-requires-clause-elements
capabilities-requires-clause-elements c =
    let G = c.args.graph.now in
    rw (c.in_ok-judge.ensures.graph, c.in_ok-elements.ensures)
    (each-all (IsLive G.elements) (numbers_in G.elements) (elements_live G c.formed.ensures))
