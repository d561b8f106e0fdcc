-- The review had no list, and what it answers is in order.
use Rattle.pm_affect.proofs.Were.{inserted-were}
use Rattle.pm_state.proofs.Charged.{more-charged}
use Rattle.pm_state.proofs.Repaired.{due-keep, more-free, more-listed}
use Rattle.pm_state.proofs.repairs.insert.Goals as goal

pub insert-requires-clause-none : goal.insert-requires-clause-none
insert-requires-clause-none c =
    more-free c.requires.before c.args.graph.now c.args.of (due-keep c.args.lists c.args.graph.now c.args.of c.requires) c.args.lists c.requires.listed

pub insert-requires-clause-order : goal.insert-requires-clause-order
insert-requires-clause-order c = rw (c.in_ok-list.ensures) (c.list_in_order.ensures c.args.graph.now c.args.of c.formed.ensures)

pub returns-clause-listed : goal.returns-clause-listed
returns-clause-listed c =
    let H = c.args.graph.now in
    rw (rw (c.in_ok-list.ensures) at c.in_ok-insert.ensures.ok)
    (more-listed c.requires.before H c.args.of (due-keep c.args.lists H c.args.of c.requires) c.args.lists c.requires.listed)

pub returns-clause-charged : goal.returns-clause-charged
returns-clause-charged c =
    rw c.in_ok-insert.ensures.ok (more-charged c.args.lists c.args.graph.now c.args.of c.in_ok-list.list c.kept.ensures)

pub returns-clause-were : goal.returns-clause-were
returns-clause-were c = rw c.in_ok-insert.ensures.ok (λ G. inserted-were G c.args.of c.in_ok-list.list c.args.lists)
