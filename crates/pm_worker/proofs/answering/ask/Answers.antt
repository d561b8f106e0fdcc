-- The desk is asked after a look.
use Rattle.std.proofs.lemmas.Result.{IfOk-weaker}
use Rattle.pm_worker.proofs.Speaking.{rests_speaks}
use Rattle.pm_worker.proofs.answering.ask.Goals as goal

pub returns-in-Ok-GoDesk-clause-ok : goal.returns-in-Ok-GoDesk-clause-ok
returns-in-Ok-GoDesk-clause-ok g c =
    let looked = rw c.in-Ok-GoDesk.field-0-is at c.in-Ok-GoDesk.ensures.ok in
    IfOk-weaker c.submit.result _ _ (λ r. rests_speaks _ _ _ _ _ r.reply r.version looked.1) c.submit.ensures.ok
