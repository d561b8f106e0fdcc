use Rattle.pm_assoc.proofs.Holding.{within-words}
use Rattle.pm_assoc.proofs.table.AssocGrants.holder_words.Goals as goal

pub returns-clause-within : goal.returns-clause-within
returns-clause-within c =
    rw (← c.self.view_is)
    (within-words c.self.inside.holders c.len.result c.self.inside.grantees.items c.len.ensures.long c.self.invariant.holders)
