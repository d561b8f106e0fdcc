use Rattle.pm_model.specs.State.{classes_in}
use Rattle.pm_model.specs.Containment.{contained}
use Rattle.pm_model.specs.Decision.{associations_of}
use Rattle.pm_laws.proofs.Live.{classes-live}
use Rattle.pm_state.proofs.Granting.{table-live, bars-live}
use Rattle.pm_admin.proofs.Reasons.{reason-is, verdict-placed}
use Rattle.pm_admin.proofs.denials.reason.Goals as goal

pub decide-verdict-requires-clause-asked : goal.decide-verdict-requires-clause-asked
decide-verdict-requires-clause-asked c = rw (c.reach-reach.ensures.elements, c.reach-reach.ensures.assigned) (record {
  user = c.requires.user;
  element = c.requires.element;
  classes = rw (c.classes-classes.ensures) (classes-live c.args.graph.now c.formed.ensures);
  grants = table-live c.args.graph.now _ c.assoc-assoc.result.now.grantees c.formed.ensures c.kept.ensures c.assoc-assoc.ensures;
})

pub decide-verdict-requires-clause-bars : goal.decide-verdict-requires-clause-bars
decide-verdict-requires-clause-bars c =
    rw (c.reach-reach.ensures.elements, c.reach-reach.ensures.assigned, c.deny-deny.ensures) (bars-live c.args.graph.now _ c.formed.ensures)

pub reason_by-requires : goal.reason_by-requires
reason_by-requires c =
    let G = c.args.graph.now in
    rw (c.decide-verdict.ensures.answer, c.reach-reach.ensures.assigned)
    (verdict-placed (contained G.assigned) (associations_of c.assoc-assoc.result.now.grantees) c.deny-deny.result.now.items c.classes-classes.result.now
    c.args.user c.args.process c.args.right c.args.element)

pub returns : goal.returns
returns c =
    let G = c.args.graph.now in
    rw (c.reason_by.ensures, c.decide-verdict.ensures.answer, c.reach-reach.ensures.assigned, c.assoc-assoc.ensures, c.deny-deny.ensures, c.classes-classes.ensures)
    (reason-is (contained G.assigned) G.associations G.prohibitions (classes_in G.elements) c.args.user c.args.process c.args.right c.args.element)
