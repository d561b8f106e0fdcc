use Rattle.pm_laws.proofs.KeptReviews.{review_kept, review_dropped}
use Rattle.pm_laws.proofs.numbers_of_reviews.Goals as goal

pub returns-clause-kept : goal.returns-clause-kept
returns-clause-kept c = review_kept

pub returns-clause-dropped : goal.returns-clause-dropped
returns-clause-dropped c = review_dropped
