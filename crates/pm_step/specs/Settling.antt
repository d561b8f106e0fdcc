-- Which reviews were kept before an entry, and the graph once their last changes are told.
use Rattle.std.specs.Prelude.{ℕ, Bool, false, Option, None, Some}
use Rattle.pm_model.specs.KeptReviews.{KeptReview, is_same}
use Rattle.pm_model.specs.LastChanges.{with_changes}
use Rattle.pm_model.specs.State.{Graph}
use Rattle.pm_model.specs.declared.reviews.ReviewOf.{ReviewOf}

-- it was kept, and of the same
abbrev pub is_kept_so : Option KeptReview → ReviewOf ℕ → Bool
is_kept_so None of = false
is_kept_so (Some k) of = is_same k.of of

-- the graph with the last changes of its kept reviews, by a name that goals don't open: the lists are long when written out
unfoldable pub reviews_settled : Graph → ℕ → Graph → Graph
reviews_settled G version H = with_changes G version H
