-- A class that doesn't contain the element asks for nothing.
use Rattle.pm_decide.proofs.RightSets.{set-all, unasked}
use Rattle.pm_given.proofs.joins.rights_left.Goals as goal

pub returns-then-not-contains-clause-answer : goal.returns-then-not-contains-clause-answer
returns-then-not-contains-clause-answer g c = λ L told. set-all _ (λ r. unasked _ _ c.if-not-contains.ensures.answer)
