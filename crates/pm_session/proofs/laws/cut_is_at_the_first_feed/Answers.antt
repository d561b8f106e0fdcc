use Rattle.pm_session.proofs.FirstLine.{IsCut-cut, HasNoFeed-cut, cut-line, cut-plain}
use Rattle.pm_session.proofs.laws.cut_is_at_the_first_feed.Goals as goal

pub returns-clause-found : goal.returns-clause-found
returns-clause-found c = λ bytes line rest.
    (λ is. let at = IsCut-cut bytes (line, rest) is in (at.split, at.plain), λ at. cut-line bytes line rest (record { split = at.0; plain = at.1 }))

pub returns-clause-missing : goal.returns-clause-missing
returns-clause-missing c = λ bytes. (HasNoFeed-cut bytes, cut-plain bytes)
