use Rattle.pm_laws.proofs.KeptReviews.{review_found, review_stands}
use Rattle.pm_laws.proofs.kept_reviews_stand.Goals as goal

pub returns-clause-found : goal.returns-clause-found
returns-clause-found c = review_found

pub returns-clause-stands : goal.returns-clause-stands
returns-clause-stands c = review_stands
