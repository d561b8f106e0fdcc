-- What a change asks of the lists of kept reviews.
use Rattle.std.specs.Prelude.{◌≡◌, ◌⊎◌, ◌+◌, ℕ, Bool, true, false, Some, Ok, option_map}
use Rattle.pm_model.specs.Effect.{effect}
use Rattle.pm_model.specs.Formed.{IsNamed, IsWellFormed}
use Rattle.pm_model.specs.KeptReviews.{KeptReview, kept_at}
use Rattle.pm_model.specs.State.{Graph}
use Rattle.pm_model.specs.declared.replies.ChangeError.{ChangeError}
use Rattle.pm_model.specs.declared.replies.ChangeError.TheVariants.{Refused, Memory}
use Rattle.pm_model.specs.declared.requests.Change.{Change}
use Rattle.pm_model.specs.declared.requests.Change.TheVariants.{Keep, DropReview}
use Rattle.pm_affect.specs.Affected.{region_of}
use Rattle.pm_affect.specs.Lists.{Lists}
use Rattle.pm_affect.specs.Counting.{capped, judged_for}
use Rattle.pm_affect.specs.Right.{WereLists}
use Rattle.pm_state.specs.Drafted.{Drafted}
use Rattle.pm_state.specs.Listing.{AreListed}
use Rattle.pm_state.specs.declared.repairs.Repair.{Repair}
use Rattle.pm_state.specs.declared.repairs.Repair.TheVariants.{More, Less, Within}

-- the change is one of the kept reviews themselves
abbrev pub is_of_reviews : Change → Bool
is_of_reviews (Keep of) = true
is_of_reviews (DropReview n) = true
is_of_reviews _ = false

-- the change keeps a review no longer
abbrev pub drops_review : Change → Bool
drops_review (DropReview n) = true
drops_review _ = false

-- a list less is asked for
abbrev pub is_less : Repair → Bool
is_less (Less of) = true
is_less _ = false

-- a list more, a list less, or the lists that are there, in the region of the change
abbrev pub IsAsked : Graph → Change → Repair → Type 0
IsAsked G change (More of) = change ≡ Keep of
IsAsked G change (Less of) = (n : ℕ) × (change ≡ DropReview n) × (option_map (λ (k : KeptReview). k.of) (kept_at G.kept n) ≡ Some of)
IsAsked G change (Within region) = (region ≡ region_of G change) × (is_of_reviews change ≡ false)

-- a change has led to this graph from one whose lists these were, and asks for this repair
pub record IsDue (L : Lists) (H : Graph) (repair : Repair) : Type 0 where
  pub before : Graph
  pub change : Change
  pub formed : IsWellFormed before
  pub named : IsNamed before change
  pub led : effect before change ≡ Ok H
  pub listed : AreListed L before
  pub asked : IsAsked before change repair

-- the lists have been charged for what the change asked
abbrev pub IsCharged : Lists → Lists → Graph → Repair → Type 0
IsCharged L M H repair = (due : IsDue L H repair) → M.asked ≡ capped (L.asked + judged_for due.before due.change)

-- where lists were those of a graph when they were last copied, what came of them were so too
abbrev pub KeepsWere : Lists → Lists → Type 0
KeepsWere L M = (G : Graph) → WereLists G L → WereLists G M

-- what an error leaves: a refusal the draft as it was; want of memory the draft as it was, or changed and without its lists
abbrev pub IsLeft : Drafted → Drafted → Change → ChangeError → Type 0
IsLeft old new change (Refused why) = new ≡ old
IsLeft old new change Memory = (new ≡ old) ⊎ ((effect old.graph change ≡ Ok new.graph) × (new.whole ≡ false))
