use Rattle.pm_kept.proofs.Numbers.{drop-rises}
use Rattle.pm_kept.proofs.table.KeptReviews.drop_review.Goals as goal

pub invariant_of-self : goal.invariant_of-self
invariant_of-self c = rw c.remove.ensures (drop-rises c.self.inside.items.items c.self.invariant c.args.number)
