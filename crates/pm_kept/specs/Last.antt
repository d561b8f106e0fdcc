-- The last change of a kept review.
use Rattle.std.specs.Prelude.{ℕ, List}
use denote.Ref.{Bor}
use Rattle.pm_model.specs.KeptReviews.{KeptReview}
use Rattle.pm_model.specs.declared.reviews.Changed.{Changed}

-- the version of the entry that made it, and what it was
abbrev pub last_of : KeptReview → ℕ × List Changed
last_of k = (k.at, k.changed)

-- the same, where what it was is lent
abbrev pub lent : ℕ × Bor (List Changed) → ℕ × List Changed
lent last = (last.0, last.1.now)
