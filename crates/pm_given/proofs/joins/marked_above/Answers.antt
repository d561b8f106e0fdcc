-- What both words have.
use Rattle.std.proofs.Common.{ℕ, Bool, ◌+◌, ◌*◌, get_or}
use Rattle.pm_decide.proofs.Bits.{both-of}
use Rattle.pm_given.specs.Told.{is_marked}
use Rattle.pm_given.proofs.Above.{marked-at}
use Rattle.pm_given.proofs.joins.marked_above.Goals as goal

pub returns-clause-word : goal.returns-clause-word
returns-clause-word g c =
    both-of (get_or c.args.marks.now c.args.k 0) c.above.result (λ i. is_marked c.args.marks.now (64 * c.args.k + i))
    (λ i. (g.R.Reach.relation c.args.reach.now).below c.args.element (64 * c.args.k + i))
    (λ i h. marked-at c.args.marks.now c.args.k i h) c.above.ensures.word
