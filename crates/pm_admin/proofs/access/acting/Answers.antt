use Rattle.std.proofs.Common.{sym}
use Rattle.pm_laws.proofs.Live.{user-is, user-live}
use Rattle.pm_admin.proofs.access.acting.Goals as goal

pub returns-in-Some-clause-live : goal.returns-in-Some-clause-live
returns-in-Some-clause-live c =
    let found = sym c.in-Some.ensures in
    user-live c.args.graph.now c.args.process c.in-Some.user c.formed.ensures (rw c.procs.ensures at found)

pub returns-in-Some-clause-user : goal.returns-in-Some-clause-user
returns-in-Some-clause-user c =
    let found = sym c.in-Some.ensures in
    user-is c.args.graph.now c.args.process c.in-Some.user c.formed.ensures (rw c.procs.ensures at found)
