-- What a change leaves as it was: the kept reviews, and the names of elements.
use Rattle.std.specs.Prelude.{◌≡◌, ℕ, Bool, true, false, Ok}
use Rattle.pm_model.specs.Effect.{effect}
use Rattle.pm_model.specs.Formed.{IsLive}
use Rattle.pm_model.specs.LastChanges.{with_changes}
use Rattle.pm_model.specs.State.{Graph, name_numbered}
use Rattle.pm_model.specs.declared.requests.Change.{Change}
use Rattle.pm_model.specs.declared.requests.Change.TheVariants.{Create, Delete, Keep, DropReview}
use Rattle.pm_model.specs.declared.reviews.ReviewOf.{ReviewOf}
use Rattle.pm_affect.specs.Counting.{judged_for}
use Rattle.pm_state.specs.Listing.{kept_list}

-- a change that leaves the list of each kept review, no last change to be told, and no right to be judged
pub record LeavesReviews (G : Graph) (change : Change) : Type 0 where
  pub lists : (H : Graph) → effect G change ≡ Ok H → (of : ReviewOf ℕ) → kept_list H of ≡ kept_list G of
  pub settled : (H : Graph) → effect G change ≡ Ok H → (version : ℕ) → with_changes G version H ≡ H
  pub judged : judged_for G change ≡ 0

-- the change makes or ends an element or a kept review
abbrev pub alters : Change → Bool
alters (Create id kind name into) = true
alters (Delete id) = true
alters (Keep of) = true
alters (DropReview n) = true
alters _ = false

-- the change ends an element
abbrev pub deletes : Change → Bool
deletes (Delete id) = true
deletes _ = false

-- each element that was live is live, by the same name
pub record AreNamesKept (G H : Graph) : Type 0 where
  pub live : (n : ℕ) → IsLive G.elements n → IsLive H.elements n
  pub names : (n : ℕ) → IsLive G.elements n → name_numbered H.elements n ≡ name_numbered G.elements n
