-- Kept reviews: what each is of, their numbers, and their last changes. The reviews are the report's; that they are kept is
-- the project's own.
use Rattle.std.specs.Prelude.{ℕ, Bool, false, not, ◌==◌, ◌+◌, nat_lt, nat_le, List, [], ◌∷◌, length, filter, find, if◌then◌else◌, Option}
use Rattle.std.specs.List.{list_any}
use Rattle.pm_model.specs.declared.replies.Refusal.{Refusal}
use Rattle.pm_model.specs.declared.replies.Refusal.TheVariants.{Already, Full}
use Rattle.pm_model.specs.declared.replies.Table.TheVariants as table
use Rattle.pm_model.specs.declared.reviews.Changed.{Changed}
use Rattle.pm_model.specs.declared.reviews.ReviewOf.{ReviewOf}
use Rattle.pm_model.specs.declared.reviews.ReviewOf.TheVariants.{Caps, Entries}

pub record KeptReview : Type 0 where
  pub number : ℕ
  pub of : ReviewOf ℕ
  -- the version of the entry that changed its list last, and what that changed: 0 and nothing where none has
  pub at : ℕ
  pub changed : List Changed

abbrev pub max_reviews : ℕ
max_reviews = 256

-- the element that a review is of
abbrev pub subject : ReviewOf ℕ → ℕ
subject (Caps u) = u
subject (Entries e) = e

abbrev pub is_same : ReviewOf ℕ → ReviewOf ℕ → Bool
is_same (Caps u) (Caps v) = u == v
is_same (Entries d) (Entries e) = d == e
is_same _ _ = false

abbrev pub is_kept_as : ℕ → KeptReview → Bool
is_kept_as n k = k.number == n

abbrev pub is_kept_of : ReviewOf ℕ → KeptReview → Bool
is_kept_of of k = is_same of k.of

-- the kept review of a number
abbrev pub kept_at : List KeptReview → ℕ → Option KeptReview
kept_at ks n = find (is_kept_as n) ks

-- the review is of the element
abbrev pub reviews : ℕ → KeptReview → Bool
reviews id k = subject k.of == id

-- ---- keeping and dropping

-- the least number from n on that no review of this rising list has
abbrev pub unkept_from : ℕ → List KeptReview → ℕ
unkept_from n [] = n
unkept_from n (k ∷ ks) = if k.number == n then unkept_from (n + 1) ks else n

-- the number that the next review that is kept takes
abbrev pub unkept : List KeptReview → ℕ
unkept ks = unkept_from 0 ks

-- a review that no entry has changed yet
abbrev pub new_review : ℕ → ReviewOf ℕ → KeptReview
new_review n of = record { number = n; of = of; at = 0; changed = [] }

-- the list with this review at its place by number
abbrev pub with_review : KeptReview → List KeptReview → List KeptReview
with_review x [] = x ∷ []
with_review x (k ∷ ks) = if nat_lt x.number k.number then x ∷ k ∷ ks else k ∷ with_review x ks

abbrev pub without_review : ℕ → List KeptReview → List KeptReview
without_review n ks = filter (λ k. not (is_kept_as n k)) ks

-- preconditions in order
abbrev pub keep_checks : List KeptReview → ReviewOf ℕ → List (Bool × Refusal)
keep_checks ks of = (list_any (is_kept_of of) ks, Already) ∷ (nat_le max_reviews (length ks), Full table.Reviews) ∷ []
