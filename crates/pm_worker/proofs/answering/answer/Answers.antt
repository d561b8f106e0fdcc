use Rattle.pm_worker.proofs.Speaking.{speaks_replies, unprinted_rests, on_ok_to}
use Rattle.pm_worker.proofs.answering.answer.Goals as goal

pub returns-clause-ok : goal.returns-clause-ok
returns-clause-ok g c =
    on_ok_to _ (λ is. speaks_replies _ _ _ _ _ _ _ _ c.in_ok-spoken.ensures.ok c.known.ensures.replayed is) c.put.ensures.ok

-- where there is no memory for a review's list, the seat was told nothing
pub returns-clause-err : goal.returns-clause-err
returns-clause-err g c = unprinted_rests _ _ _ _ _ _ _ _ _ c.in_ok-spoken.ensures.ok c.requires c.put.ensures.fits
