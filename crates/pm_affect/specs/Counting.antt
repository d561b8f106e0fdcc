-- How much work a history takes, by the rules alone: the sum over the changes of each entry, its own and those of responses
-- alike, of how many rights are judged for kept reviews, or of how many rows of containment are written. The project's own.
use Rattle.std.specs.Prelude.{ℕ, ◌+◌, ◌-◌, ◌^◌, Bool, ◌||◌, min, List, [], ◌∷◌, length, filter, Option, None, Some, Result, Ok, Err}
use Rattle.std.specs.List.{list_any, sum_by}
use Rattle.pm_model.specs.State.{State, Graph, opening}
use Rattle.pm_model.specs.Containment.{contained}
use Rattle.pm_model.specs.Effect.{effect}
use Rattle.pm_model.specs.Reviews.{numbers_in, users_in}
use Rattle.pm_model.specs.KeptReviews.{KeptReview, is_kept_of}
use Rattle.pm_model.specs.Answer.{after, answer}
use Rattle.pm_model.specs.declared.elements.Element.{Element}
use Rattle.pm_model.specs.declared.events.Event.{Event}
use Rattle.pm_model.specs.declared.events.EventNames.{EventNames}
use Rattle.pm_model.specs.declared.actions.Action.{Action}
use Rattle.pm_model.specs.declared.obligations.Obligation.{Obligation}
use Rattle.pm_model.specs.declared.obligations.Place.{Place}
use Rattle.pm_model.specs.declared.requests.Change.{Change}
use Rattle.pm_model.specs.declared.requests.Change.TheVariants as change
use Rattle.pm_model.specs.declared.requests.Command.{Command}
use Rattle.pm_model.specs.declared.requests.Entry.{Entry}
use Rattle.pm_model.specs.declared.requests.Request.{Request}
use Rattle.pm_model.specs.declared.reviews.ReviewOf.TheVariants.{Caps, Entries}
use Rattle.pm_affect.specs.Affected.{is_in, region_of}
use Rattle.pm_affect.specs.Changes.{Turn, changes_acted, changes_by, changes_commanded, changes_entered, changes_granted, changes_responded, changes_response_from, changes_responses_from}
use Rattle.pm_affect.specs.Judged.{judged}

-- what is counted by what comes, and nothing where it is refused
abbrev pub count_on : {A E : Type 0} → Result A E → (A → ℕ) → ℕ
count_on (Ok a) count = count a
count_on (Err why) count = 0

-- ---- a change

-- the capabilities of the user are kept, or the entries of the element
abbrev pub is_reviewed : List KeptReview → ℕ → ℕ → Bool
is_reviewed ks u e = list_any (is_kept_of (Caps u)) ks || list_any (is_kept_of (Entries e)) ks

-- the pairs of a live user and a live element that lie in the region of the change, which has led to H, and in the scope of a
-- review that is kept then
abbrev pub judged_pairs : Graph → Change → Graph → List (ℕ × ℕ)
judged_pairs G change H =
    judged (is_in (contained H.assigned) (region_of G change)) (is_reviewed H.kept) (users_in H.elements) (numbers_in H.elements)

-- how many rights are judged for a change; by a name that goals don't open
unfoldable pub judged_for : Graph → Change → ℕ
judged_for G change = count_on (effect G change) (λ H. length (judged_pairs G change H))

-- how many elements are contained in x, itself among them
abbrev pub count_in : Graph → ℕ → ℕ
count_in G x = length (filter (λ (e : Element). contained G.assigned e.number x) G.elements)

-- the rows that a change writes: that of an element that is made, once more where it is made in a container; and those of all
-- that is contained in an element that is assigned, or whose assignment is taken away
abbrev pub rows_of : Graph → Change → ℕ
rows_of G (change.Create id kind name None) = 1
rows_of G (change.Create id kind name (Some into)) = 2
rows_of G (change.Assign x y) = count_in G x
rows_of G (change.Deassign x y) = count_in G x
rows_of G _ = 0

-- how many rows are written for a change; by a name that goals don't open
unfoldable pub rows_for : Graph → Change → ℕ
rows_for G change = count_on (effect G change) (λ H. rows_of G change)

-- what is counted
pub data Work : Type 0 where
  -- rights judged for kept reviews
  Judged : Work
  -- rows written
  Written : Work

abbrev pub work_for : Work → Graph → Change → ℕ
work_for Judged G change = judged_for G change
work_for Written G change = rows_for G change

module _ (w : Work) where
  -- for changes one after another: the sum
  abbrev pub work_over : List Turn → ℕ
  work_over turns = sum_by (λ (t : Turn). work_for w t.0 t.1) turns

  -- ---- responses

  abbrev pub work_commanded : Graph → ℕ → Command → ℕ
  work_commanded G author command = work_over (changes_commanded G author command)

  module _ (names : EventNames) (version : ℕ) where
    abbrev pub work_acted : Graph → ℕ → Place → Action → ℕ
    work_acted G author place action = work_over (changes_acted names version G author place action)

    abbrev pub work_response_from : Obligation → ℕ → ℕ → Graph → List Action → ℕ
    work_response_from o place number G actions = work_over (changes_response_from names version o place number G actions)

    abbrev pub work_responses_from : ℕ → Graph → List Obligation → ℕ
    work_responses_from place G obligations = work_over (changes_responses_from names version place G obligations)

    abbrev pub work_responses : Graph → List Obligation → ℕ
    work_responses G obligations = work_responses_from 1 G obligations

  -- ---- an entry

  abbrev pub work_responded : State → Option Event → List Obligation → Graph → ℕ
  work_responded S e obligations G = work_over (changes_responded S e obligations G)

  abbrev pub work_entered : State → Option Event → Change → ℕ
  work_entered S e change = work_over (changes_entered S e change)

  abbrev pub work_granted : State → Event → ℕ
  work_granted S e = work_over (changes_granted S e)

  abbrev pub work_by : State → Request → ℕ
  work_by S request = work_over (changes_by S request)

  -- ---- a history

  -- for these entries, one after another from this state on
  abbrev pub work_from : State → List Entry → ℕ
  work_from S [] = 0
  work_from S (entry ∷ entries) = work_by S entry.request + work_from (after S (answer S entry.request)) entries

  abbrev pub work_in : List Entry → ℕ
  work_in entries = work_from opening entries

-- a count up to the highest that is kept
abbrev pub capped : ℕ → ℕ
capped n = min n (2 ^ 64 - 1)
