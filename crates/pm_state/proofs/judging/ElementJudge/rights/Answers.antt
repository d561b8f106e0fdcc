-- What the rights are asked about is live, and its assignments are the graph's.
use Rattle.pm_laws.proofs.Live.{classes-live}
use Rattle.pm_state.proofs.Granting.{table-live}
use Rattle.pm_state.proofs.Parents.{graph-parents}
use Rattle.pm_state.proofs.judging.ElementJudge.rights.Goals as goal

pub rights-requires-clause-asked : goal.rights-requires-clause-asked
rights-requires-clause-asked c = rw (c.reach-reach.ensures.elements, c.reach-reach.ensures.assigned) (record {
  user = c.requires.user;
  element = c.requires.element;
  classes = rw (c.classes-classes.ensures) (classes-live c.args.self.now.graph.now c.formed.ensures);
  grants = table-live c.args.self.now.graph.now _ c.args.self.now.assoc.now.grantees c.formed.ensures c.kept.ensures c.args.self.now.own;
})

pub rights-requires-clause-parents : goal.rights-requires-clause-parents
rights-requires-clause-parents c =
    rw (c.reach-reach.ensures.elements, c.reach-reach.ensures.assigned, c.elements-parents.ensures.elements, c.elements-parents.ensures.assigned, c.classes-classes.ensures)
    (graph-parents c.args.self.now.graph.now c.formed.ensures)

pub rights-requires-clause-known : goal.rights-requires-clause-known
rights-requires-clause-known c = rw (c.reach-reach.ensures.assigned, c.classes-classes.ensures) c.args.self.now.known
