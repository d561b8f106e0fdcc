use Rattle.pm_procs.specs.Kept.{procs_of}
use Rattle.pm_procs.proofs.Numbers.{processes-rise, numbered-without_process}
use Rattle.pm_procs.proofs.table.Procs.end_process.Goals as goal

pub own-requires : goal.own-requires
own-requires c = processes-rise (procs_of c.self.inside) c.self.invariant

pub remove-requires-clause-rising : goal.remove-requires-clause-rising
remove-requires-clause-rising c = rw c.own.ensures.items (processes-rise (procs_of c.self.inside) c.self.invariant)

pub invariant_of-self-2 : goal.invariant_of-self-2
invariant_of-self-2 c = rw (c.remove.ensures.items, c.own.ensures.items) (numbered-without_process (procs_of c.self.inside) c.self.invariant c.args.process)
