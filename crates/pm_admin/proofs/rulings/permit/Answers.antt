use Rattle.pm_laws.proofs.Resolved.{resolve-named}
use Rattle.pm_admin.proofs.Found.{resolve-found}
use Rattle.pm_admin.proofs.rulings.permit.Goals as goal

pub first_denied-requires-clause-found : goal.first_denied-requires-clause-found
first_denied-requires-clause-found c = resolve-found c.args.graph.now c.args.user c.args.command.now c.in-Ok.change c.formed.ensures c.in-Ok.ensures.value

pub returns-in-None-clause-named : goal.returns-in-None-clause-named
returns-in-None-clause-named c =
    λ user. resolve-named c.args.graph.now c.args.user c.args.command.now c.in-Ok.change user c.in-Ok.ensures.value
