-- A class that doesn't contain the element asks for nothing.
use Rattle.pm_decide.proofs.RightSets.{set-all, unasked}
use Rattle.pm_decide.proofs.rights.rights_in.Goals as goal

pub returns-then-not-contains-clause-answer : goal.returns-then-not-contains-clause-answer
returns-then-not-contains-clause-answer g c = set-all _ (λ r. unasked _ _ c.if-not-contains.ensures.answer)
