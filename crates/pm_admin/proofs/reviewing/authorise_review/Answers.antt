-- What a question's names resolve to is live.
use Rattle.pm_laws.proofs.Reviewed.{question-live}
use Rattle.pm_admin.proofs.reviewing.authorise_review.Goals as goal

pub denied_review-requires-clause-live : goal.denied_review-requires-clause-live
denied_review-requires-clause-live c = question-live c.args.graph.now c.args.question.now c.in-Ok.review c.formed.ensures c.in-Ok.ensures.value

pub unmet-requires : goal.unmet-requires
unmet-requires c = question-live c.args.graph.now c.args.question.now c.in-Ok.review c.formed.ensures c.in-Ok.ensures.value

pub returns-in-None-unmet-clause-live : goal.returns-in-None-unmet-clause-live
returns-in-None-unmet-clause-live c = question-live c.args.graph.now c.args.question.now c.in-Ok.review c.formed.ensures c.in-Ok.ensures.value
