use Rattle.pm_session.proofs.Pushing.{HasPushed-feed, HasPushed-then}
use Rattle.pm_session.proofs.waiting.push_line.Goals as goal

pub returns-clause-pushed : goal.returns-clause-pushed
returns-clause-pushed c =
    let part = c.push_part.ensures.pushed in
    rw c.append.ensures.items (HasPushed-then _ _ _ _ _ _ _ part (HasPushed-feed _ _ part.kept))
