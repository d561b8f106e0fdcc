use Rattle.std.proofs.Common.{◌∙◌}
use Rattle.pm_model.specs.History.{state_of}
use Rattle.pm_step.specs.Proposed.{event_by}
use Rattle.pm_step.proofs.Counted.{work-unanswered}
use Rattle.pm_step.proofs.steps.enter_by.Goals as goal

pub enter_alone-requires-clause-work : goal.enter_alone-requires-clause-work
enter_alone-requires-clause-work c w =
    let M = c.args.state.now in
    c.requires.work w
    ∙ work-unanswered w (state_of M) (event_by M.graph c.args.by c.args.change.now) c.args.change.now (rw (c.graph.ensures) at (c.awaited.ensures.none c.in-None.is))
