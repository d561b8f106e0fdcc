use Rattle.pm_house.proofs.GoingOn.{has_gone_on}
use Rattle.pm_house.proofs.restoring.goes_on.Goals as goal

pub returns-clause-taken : goal.returns-clause-taken
returns-clause-taken g c =
    let machine = g.V.Version.machine in
    has_gone_on (machine c.args.version.now) (machine c.advance.new.self) c.args.entry.now c.in_ok-_reply._reply c.version-before.result c.version.result
    c.known.ensures.replayed c.in_ok-_reply.ensures.ok c.version-before.ensures.version c.version.ensures.version
