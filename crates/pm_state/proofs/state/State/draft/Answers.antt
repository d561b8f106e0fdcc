use Rattle.pm_affect.proofs.Were.{copied-were}
use Rattle.pm_state.proofs.Listed.{copied-listed}
use Rattle.pm_state.proofs.Repaired.{are-lists}
use Rattle.pm_state.proofs.state.State.draft.Goals as goal

pub begun-requires-clause-listed : goal.begun-requires-clause-listed
begun-requires-clause-listed c =
    let s = c.self.inside in
    rw (c.in_ok-graph.ensures, c.in_ok-lists.ensures) (copied-listed s.lists s.graph c.self.invariant.listed)

pub begun-requires-clause-were : goal.begun-requires-clause-were
begun-requires-clause-were c =
    let s = c.self.inside in
    rw (c.in_ok-graph.ensures, c.in_ok-lists.ensures) (copied-were s.graph s.lists (are-lists s.lists c.kept.ensures s.graph c.self.invariant.listed))
