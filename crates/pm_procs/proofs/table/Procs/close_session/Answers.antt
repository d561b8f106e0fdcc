use Rattle.pm_procs.specs.Kept.{procs_of}
use Rattle.pm_procs.proofs.Numbers.{sessions-rise, numbered-without_session}
use Rattle.pm_procs.proofs.table.Procs.close_session.Goals as goal

pub own-requires : goal.own-requires
own-requires c = sessions-rise (procs_of c.self.inside) c.self.invariant

pub remove-requires-clause-rising : goal.remove-requires-clause-rising
remove-requires-clause-rising c = rw c.own.ensures.items (sessions-rise (procs_of c.self.inside) c.self.invariant)

pub invariant_of-self-2 : goal.invariant_of-self-2
invariant_of-self-2 c =
    rw (c.remove.ensures.items, c.own.ensures.items, c.remove_processes.ensures.items, c.own_processes.ensures.items)
    (numbered-without_session (procs_of c.self.inside) c.self.invariant c.args.session)
