-- What an entry changes in the lists of kept reviews. An element is known by its number and its name together: a number that
-- goes from one element to another in one entry is told of both, the old one first. The project's own.
use Rattle.std.specs.Prelude.{ℕ, zero, suc, Bool, not, ◌==◌, ◌+◌, max, List, [], ◌∷◌, ◌++◌, map, filter, find, if◌then◌else◌, bytes_eq, Option, None, Some}
use Rattle.pm_model.specs.KeptReviews.{KeptReview, is_same, kept_at}
use Rattle.pm_model.specs.Reviews.{list_of}
use Rattle.pm_model.specs.State.{Graph, name_numbered}
use Rattle.pm_model.specs.declared.reviews.Changed.{Changed}
use Rattle.pm_model.specs.declared.reviews.Pair.{Pair}
use Rattle.pm_model.specs.declared.reviews.ReviewOf.{ReviewOf}

abbrev pub changed : List ℕ → ℕ → ℕ → Changed
changed name old new = record { name = name; old = old; new = new }

abbrev pub differs : Changed → Bool
differs c = not (c.old == c.new)

abbrev pub is_of : ℕ → Pair → Bool
is_of n p = p.element == n

abbrev pub rights_or_none : Option Pair → ℕ
rights_or_none None = 0
rights_or_none (Some p) = p.rights

-- the rights of the element of this number in a list, none where the list doesn't have it
abbrev pub rights_listed : List Pair → ℕ → ℕ
rights_listed list n = rights_or_none (find (is_of n) list)

-- one above the numbers in a list
abbrev pub above : List Pair → ℕ
above [] = 0
above (p ∷ ps) = max (p.element + 1) (above ps)

-- of two lists, where elements have these names at the one and at the other
module _ (was is : ℕ → List ℕ) (old new : List Pair) where
  -- what becomes of the element of this number, or of the two that have had it
  abbrev pub changes_at : ℕ → List Changed
  changes_at n =
      filter differs (
      if bytes_eq (was n) (is n) then changed (is n) (rights_listed old n) (rights_listed new n) ∷ []
      else changed (was n) (rights_listed old n) 0 ∷ changed (is n) 0 (rights_listed new n) ∷ []
      )

  -- of all numbers below this one, by rising number
  unfoldable pub changes_below : ℕ → List Changed
  changes_below zero = []
  changes_below (suc n) = changes_below n ++ changes_at n

  abbrev pub changes_between : List Changed
  changes_between = changes_below (max (above old) (above new))

-- what differs in the list of a review, of one graph and of another
abbrev pub changes_in : Graph → Graph → ReviewOf ℕ → List Changed
changes_in G H of = changes_between (name_numbered G.elements) (name_numbered H.elements) (list_of G of) (list_of H of)

-- ---- once an entry has led from one graph to another

-- the last change is this one, if it is one
abbrev pub with_last : ℕ → List Changed → KeptReview → KeptReview
with_last version [] k = k
with_last version (c ∷ cs) k = record k { at = version; changed = c ∷ cs }

-- a review that was kept before: of the same, by the same number
abbrev pub settled_review : Graph → Graph → ℕ → KeptReview → KeptReview
settled_review G H version k = of_before (kept_at G.kept k.number) where
  of_before : Option KeptReview → KeptReview
  of_before None = k
  of_before (Some before) = if is_same before.of k.of then with_last version (changes_in G H k.of) k else k

-- the graph H with the last changes of its kept reviews, once the entry of this version has led to it from G
abbrev pub with_changes : Graph → ℕ → Graph → Graph
with_changes G version H = record H { kept = map (settled_review G H version) H.kept }
