use Rattle.std.proofs.Common.{◌∙◌}
use Rattle.pm_worker.proofs.Speaking.{replies_answers, loses-taken, on_err_of}
use Rattle.pm_worker.proofs.answering.answer_line.Goals as goal

pub returns-in_err-take-clause-lost : goal.returns-in_err-take-clause-lost
returns-in_err-take-clause-lost g c = on_err_of _ (loses-taken _ _ c.take.ensures.rest.waiting)

pub returns-in_err-answer-in-Some-clause-lost : goal.returns-in_err-answer-in-Some-clause-lost
returns-in_err-answer-in-Some-clause-lost g c = on_err_of _ (loses-taken _ _ (c.answer.ensures.waiting ∙ c.take.ensures.rest.waiting))

pub returns-in_ok-answer-in-Some-clause-ok : goal.returns-in_ok-answer-in-Some-clause-ok
returns-in_ok-answer-in-Some-clause-ok g c =
    replies_answers _ _ _ _ _ _ _ _ (rw c.in-Some.is at c.in_ok-take.ensures.asked)
    (c.answer.ensures.waiting ∙ c.take.ensures.rest.waiting) c.take.ensures.rest.output c.in_ok-answer-in-Some.ensures.ok c.share_of.ensures.exact c.share_of.ensures.within
