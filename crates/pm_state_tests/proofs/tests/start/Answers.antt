use Rattle.pm_model.specs.History.{state_of}
use Rattle.pm_model.specs.declared.requests.Change.{Change}
use Rattle.pm_affect.proofs.Counting.{work_alone}
use Rattle.pm_state_tests.proofs.tests.start.Goals as goal

pub enter-requires-clause-work : goal.enter-requires-clause-work
enter-requires-clause-work c w = rw (c.start_by.ensures) (work_alone w (state_of c.args.state.now) (Change.StartProcess 0))
