-- What the rights are asked about is live.
use Rattle.std.proofs.Common.{refl}
use Rattle.pm_laws.proofs.Live.{classes-live}
use Rattle.pm_state.proofs.Granting.{table-live, bars-live}
use Rattle.pm_state.proofs.judging.rights_in.Goals as goal

pub rights_of-requires-clause-asked : goal.rights_of-requires-clause-asked
rights_of-requires-clause-asked c = rw (c.reach-reach.ensures.elements, c.reach-reach.ensures.assigned) (record {
  user = c.requires.user;
  element = c.requires.element;
  classes = rw (c.classes-classes.ensures) (classes-live c.args.graph.now c.formed.ensures);
  grants = table-live c.args.graph.now _ c.assoc-assoc.result.now.grantees c.formed.ensures c.kept.ensures c.assoc-assoc.ensures;
})

pub rights_of-requires-clause-bars : goal.rights_of-requires-clause-bars
rights_of-requires-clause-bars c =
    rw (c.reach-reach.ensures.elements, c.reach-reach.ensures.assigned, c.deny-deny.ensures) (bars-live c.args.graph.now _ c.formed.ensures)

pub returns : goal.returns
returns c = rw (c.rights_of.ensures.answer, c.reach-reach.ensures.assigned, c.assoc-assoc.ensures, c.deny-deny.ensures, c.classes-classes.ensures) refl
