use Rattle.std.proofs.Common.{length}
use Rattle.pm_generator.specs.Generated.{generated}
use Rattle.pm_generator.specs.Runs.{IsRunning}
use Rattle.pm_generator.proofs.run.generate.Given as goal

abbrev pub invariant-loop-machine : goal.invariant-loop-machine
invariant-loop-machine g l = IsRunning (generated l.size) l.requests (g.M.Answerer.machine l.machine).history l.counts

abbrev pub decreases-loop-machine : goal.decreases-loop-machine
decreases-loop-machine g l = length l.requests
