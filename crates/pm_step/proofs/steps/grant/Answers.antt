use Rattle.std.proofs.Common.{sym, ◌∙◌}
use Rattle.pm_model.specs.History.{state_of}
use Rattle.pm_step.proofs.Placed.{answered-some}
use Rattle.pm_step.proofs.steps.grant.Goals as goal

pub returns-then-any_responds-clause-free : goal.returns-then-any_responds-clause-free
returns-then-any_responds-clause-free c =
    λ none. absurd (answered-some (state_of c.args.state.now) c.args.event.now
    (rw c.graph.ensures at (sym c.any_responds.ensures ∙ c.if-any_responds.true)) none)
