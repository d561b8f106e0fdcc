use Rattle.pm_model.specs.Formed.{IsLive}
use Rattle.pm_model.specs.Reviews.{users_in}
use Rattle.pm_laws.proofs.Items.{each-all}
use Rattle.pm_laws.proofs.Reviewed.{users_live}
use Rattle.pm_state.proofs.asking.entries_of.Goals as goal

pub entries-requires-clause-users : goal.entries-requires-clause-users
entries-requires-clause-users c =
    let G = c.args.graph.now in
    rw (c.in_ok-judge.ensures.graph, c.in_ok-users.ensures)
    (each-all (IsLive G.elements) (users_in G.elements) (users_live G c.formed.ensures))
