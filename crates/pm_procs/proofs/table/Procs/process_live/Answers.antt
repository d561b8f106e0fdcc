use Rattle.std.proofs.Common.{◌∙◌, is_some, ap}
use Rattle.pm_model.specs.Sessions.{is_process}
use Rattle.pm_procs.specs.Kept.{procs_of}
use Rattle.pm_procs.proofs.Numbers.{processes-rise}
use Rattle.pm_procs.proofs.Places.{is_some-position}
use Rattle.pm_procs.proofs.table.Procs.process_live.Goals as goal

pub place-requires : goal.place-requires
place-requires c = processes-rise (procs_of c.self.inside) c.self.invariant

pub returns : goal.returns
returns c =
    rw (← c.self.view_is)
    (c.is_some.ensures ∙ ap is_some c.place.ensures ∙ is_some-position (is_process c.args.process) c.self.inside.processes.items)
