use Rattle.pm_generator.specs.Generated.{generated}
use Rattle.pm_generator.proofs.Running.{begun, ended}
use Rattle.pm_generator.proofs.run.generate.Goals as goal

pub loop-machine-init : goal.loop-machine-init
loop-machine-init g c =
    begun (generated c.args.size) c.in-Some.requests (g.M.Answerer.machine c.in_ok-machine.machine) c.new-counts.result
    c.in-Some.ensures.requests c.in_ok-machine.ensures c.new-counts.ensures

pub returns-clause-value : goal.returns-clause-value
returns-clause-value g c =
    let l = c.loop-machine in
    c.summary.ensures (generated c.args.size)
    (ended (generated c.args.size) l.requests c.in_ok-request.field-0 c.next.new.self (g.M.Answerer.machine l.machine).history l.counts
    c.in_ok-request.ensures.first c.in_default-2.not-Some l.invariant)
