-- The lists that stand beside a graph: one for each kept review, which is what the review answers.
use Rattle.std.specs.Prelude.{◌≡◌, ℕ, Bool, true, false, if◌then◌else◌, List, Option, None, Some}
use Rattle.std.specs.List.{list_any}
use Rattle.pm_model.specs.KeptReviews.{is_kept_of}
use Rattle.pm_model.specs.Reviews.{list_of}
use Rattle.pm_model.specs.State.{Graph}
use Rattle.pm_model.specs.declared.requests.Change.{Change}
use Rattle.pm_model.specs.declared.requests.Change.TheVariants.{Keep}
use Rattle.pm_model.specs.declared.reviews.Pair.{Pair}
use Rattle.pm_model.specs.declared.reviews.ReviewOf.{ReviewOf}
use Rattle.pm_affect.specs.Lists.{Lists, list_in}

-- the list of a review, where it is kept; by a name that goals don't open
unfoldable pub kept_list : Graph → ReviewOf ℕ → Option (List Pair)
kept_list G of = if list_any (is_kept_of of) G.kept then Some (list_of G of) else None

-- these are the lists of all kept reviews, and no others
abbrev pub AreListed : Lists → Graph → Type 0
AreListed L G = (of : ReviewOf ℕ) → list_in L of ≡ kept_list G of

-- the change keeps one review more
abbrev pub keeps : Change → Bool
keeps (Keep of) = true
keeps _ = false
