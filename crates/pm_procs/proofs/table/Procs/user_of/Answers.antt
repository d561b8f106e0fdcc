use Rattle.std.proofs.Common.{refl}
use Rattle.pm_procs.specs.Kept.{procs_of}
use Rattle.pm_procs.proofs.Numbers.{sessions-rise, processes-rise}
use Rattle.pm_procs.proofs.table.Procs.user_of.Goals as goal

pub find-requires : goal.find-requires
find-requires c = processes-rise (procs_of c.self.inside) c.self.invariant

pub find-requires-2 : goal.find-requires-2
find-requires-2 c = sessions-rise (procs_of c.self.inside) c.self.invariant

pub returns : goal.returns
returns c = rw (← c.self.view_is, ← c.in_ok-process.ensures, ← c.in_ok-session.ensures) refl
