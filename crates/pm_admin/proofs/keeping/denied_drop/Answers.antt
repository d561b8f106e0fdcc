use Rattle.pm_admin.proofs.KeptOf.{found-asks, found-live}
use Rattle.pm_admin.proofs.keeping.denied_drop.Goals as goal

pub denied-requires-clause-element : goal.denied-requires-clause-element
denied-requires-clause-element c =
    rw c.subject.ensures (found-live c.args.graph.now c.args.review c.in-Some.of c.formed.ensures (rw c.kept.ensures at c.in-Some.ensures))

pub returns-in-Some : goal.returns-in-Some
returns-in-Some c =
    rw (found-asks c.args.graph.now c.args.review c.in-Some.of (rw c.kept.ensures at c.in-Some.ensures))
    (rw c.subject.ensures at c.denied.ensures)
