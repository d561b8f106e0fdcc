use Rattle.pm_laws.proofs.Formed.{formed-opening}
use Rattle.pm_state.proofs.graph.Graph.opening.Goals as goal

pub of-requires-clause-formed : goal.of-requires-clause-formed
of-requires-clause-formed c = rw (c.in_ok-diagram.ensures.elements, c.in_ok-diagram.ensures.assigned, c.new-assoc.ensures.grantees, c.new-deny.ensures.items, c.new-oblig.ensures.items, c.in_ok-rights.ensures, c.in_ok-procs.ensures.procs, c.new-kept.ensures) formed-opening
