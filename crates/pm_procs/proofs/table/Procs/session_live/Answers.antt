use Rattle.std.proofs.Common.{◌∙◌, is_some, ap}
use Rattle.pm_model.specs.Sessions.{is_session}
use Rattle.pm_procs.specs.Kept.{procs_of}
use Rattle.pm_procs.proofs.Numbers.{sessions-rise}
use Rattle.pm_procs.proofs.Places.{is_some-position}
use Rattle.pm_procs.proofs.table.Procs.session_live.Goals as goal

pub place-requires : goal.place-requires
place-requires c = sessions-rise (procs_of c.self.inside) c.self.invariant

pub returns : goal.returns
returns c =
    rw (← c.self.view_is)
    (c.is_some.ensures ∙ ap is_some c.place.ensures ∙ is_some-position (is_session c.args.session) c.self.inside.sessions.items)
