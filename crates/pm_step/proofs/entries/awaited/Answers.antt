use Rattle.std.proofs.Common.{Some, sym, ◌∙◌}
use Rattle.pm_step.proofs.Placed.{none-obliging, none-of}
use Rattle.pm_step.proofs.entries.awaited.Goals as goal

pub returns-clause-none : goal.returns-clause-none
returns-clause-none c =
    λ is. rw (← c.in_ok-event.ensures.value)
    (none-obliging c.args.graph.now c.args.change.now (Some c.in_ok-event.event) (none-of _ (sym c.any_responds.ensures ∙ c.if-any_responds.false)))
