use Rattle.pm_procs.specs.Kept.{procs_of}
use Rattle.pm_procs.proofs.Numbers.{numbered-with_session}
use Rattle.pm_procs.proofs.table.Procs.open_session.Goals as goal

pub invariant_of-self-2 : goal.invariant_of-self-2
invariant_of-self-2 c = rw c.in_ok-push.ensures.items (numbered-with_session (procs_of c.self.inside) c.self.invariant c.args.user)
