use Rattle.std.proofs.Common.{Some}
use Rattle.pm_step.proofs.Resolved.{ruled-kept}
use Rattle.pm_step.proofs.proposals.review.Goals as goal

pub answer-requires-clause-kept : goal.answer-requires-clause-kept
answer-requires-clause-kept g c κs within =
    rw (← c.graph-graph.ensures)
    (ruled-kept c.graph-graph.result.now c.in-Ok.user (Some c.args.process) c.args.question.now c.in-Ok-authorise_review.review c.in-Ok-authorise_review.ensures.value)
