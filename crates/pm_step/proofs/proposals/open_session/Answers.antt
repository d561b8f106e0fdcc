use Rattle.std.proofs.Common.{arith, sym}
use Rattle.pm_laws.proofs.Resolved.{looked_up-live}
use Rattle.pm_step.proofs.proposals.open_session.Goals as goal

pub returns-in-Ok-clause-possible : goal.returns-in-Ok-clause-possible
returns-in-Ok-clause-possible c =
    let found = sym c.in-Ok.ensures in
    let given = c.given.ensures.sessions in
    let most = c.version-version.ensures.most in
    let is = c.version-version.ensures.version in
    rw c.alone.ensures
    ((looked_up-live c.args.state.now.graph c.args.user c.in-Ok.user (rw c.graph.ensures at found), omega (arith, given, most, is)), tt)
