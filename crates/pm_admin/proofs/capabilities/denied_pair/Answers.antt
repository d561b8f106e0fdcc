use Rattle.pm_model.specs.Authority.{denial_in, first_denied}
use Rattle.std.proofs.Common.{[], ◌∷◌}
use Rattle.pm_admin.proofs.FirstDenied.{first-told}
use Rattle.pm_admin.proofs.capabilities.denied_pair.Goals as goal

pub returns-in-Some : goal.returns-in-Some
returns-in-Some c =
    let G = c.args.graph.now in
    let u = c.args.user in
    let q = c.args.process in
    first-told G u q c.args.rights.0 c.args.x (denial_in G u q c.args.rights.0 c.args.x) c.in-Some.why
    (first_denied G u q ((c.args.rights.1, c.args.y) ∷ [])) c.in-Some.ensures
