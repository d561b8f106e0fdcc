use Rattle.pm_kept.proofs.table.KeptReviews.set_last.Goals as goal

pub invariant_of-self : goal.invariant_of-self
invariant_of-self c = rw c.set_at.ensures.numbers c.self.invariant
