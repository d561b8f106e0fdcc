-- What the lists of kept reviews are charged for a change, and what is added to the count of rows.
use Rattle.std.proofs.Common.{◌≡◌, ◌+◌, ◌<◌, ◌^◌, ℕ, Bool, true, false, ◌&&◌, min, List, [], Option, Some, None, is_some, length, IfSome, IsSomeAnd, Ok, refl, sym, ◌∙◌, ap, arith}
use Rattle.std.specs.List.{list_any}
use Rattle.pm_model.specs.Containment.{contained}
use Rattle.pm_model.specs.Effect.{effect}
use Rattle.pm_model.specs.Formed.{IsNamed, IsWellFormed}
use Rattle.pm_model.specs.KeptReviews.{KeptReview, is_kept_of}
use Rattle.pm_model.specs.Reviews.{numbers_in, users_in}
use Rattle.pm_model.specs.State.{Graph}
use Rattle.pm_model.specs.declared.requests.Change.{Change}
use Rattle.pm_model.specs.declared.reviews.Pair.{Pair}
use Rattle.pm_model.specs.declared.reviews.ReviewOf.{ReviewOf}
use Rattle.pm_model.specs.declared.reviews.ReviewOf.TheVariants.{Caps, Entries}
use Rattle.pm_affect.specs.Affected.{is_in, region_of}
use Rattle.pm_affect.specs.Counting.{capped, judged_for}
use Rattle.pm_affect.specs.Judged.{in_scope, judged}
use Rattle.pm_affect.specs.Lists.{AreKept, Lists, inserted, list_in, removed}
use Rattle.pm_affect.specs.declared.region.Region.{Region}
use Rattle.pm_affect.specs.declared.region.Region.TheVariants.{Nothing}
use Rattle.pm_affect.proofs.Counting.{AreOf, judged-nothing, judged-untouched, judged_listed}
use Rattle.pm_affect.proofs.Untouched.{AreUntouched}
use Rattle.pm_state.specs.Drafted.{asked_of}
use Rattle.pm_state.specs.Listing.{AreListed}
use Rattle.pm_state.specs.Repairs.{IsAsked, IsCharged, IsDue}
use Rattle.pm_state.specs.declared.repairs.Repair.{Repair}
use Rattle.pm_state.specs.declared.repairs.Repair.TheVariants.{Less, More, Within}
use Rattle.pm_state.proofs.Listed.{kept-listed, unkept-listed}
use Rattle.pm_state.proofs.Repaired.{due-same}

-- lists of the kept reviews, and no others
pub listed-of : (L : Lists) (G : Graph) → AreListed L G → AreOf L G.kept
listed-of L G are of = by (list_any (is_kept_of of) G.kept) refl where
  by : (b : Bool) → list_any (is_kept_of of) G.kept ≡ b → is_some (list_in L of) ≡ list_any (is_kept_of of) G.kept
  by true is = rw (are of, kept-listed G of is, is) refl
  by false is = rw (are of, unkept-listed G of is, is) refl

-- ---- where nothing is judged

-- no review is kept after the change
pub none-judged : (G H : Graph) (c : Change) → effect G c ≡ Ok H → H.kept ≡ [] → judged_for G c ≡ 0
none-judged G H c made none = judged-nothing G H c made (λ u e.
    rw none (and_right (is_in (contained H.assigned) (region_of G c) u e))) where
      and_right : (a : Bool) → (a && false) ≡ false
      and_right true = refl
      and_right false = refl

nothing-judged : (G H : Graph) (c : Change) → effect G c ≡ Ok H → region_of G c ≡ Nothing → judged_for G c ≡ 0
nothing-judged G H c made nothing = judged-nothing G H c made (λ u e. rw nothing refl)

-- such lists stay as they are
pub charged-none : (L M : Lists) (n : ℕ) → L.asked < 2 ^ 64 → M.asked ≡ L.asked → n ≡ 0 → M.asked ≡ capped (L.asked + n)
charged-none L M n few same none = omega (arith, few, same, none)

module _ (L : Lists) (H : Graph) (region : Region) (due : IsDue L H (Within region)) where
  due-of : AreOf L H.kept
  due-of of =
      listed-of L due.before due.listed of
      ∙ ap (λ (ks : List KeptReview). list_any (is_kept_of of) ks) (sym (due-same L H region due))

  pub due-untouched-judged : AreUntouched (contained H.assigned) region L → judged_for due.before due.change ≡ 0
  due-untouched-judged far = judged-untouched due.before H due.change L due.led due-of (λ u e scope. rw (← due.asked.0) (far u e scope))

  pub due-empty-judged : H.kept ≡ [] → judged_for due.before due.change ≡ 0
  due-empty-judged none = none-judged due.before H due.change due.led none

  -- what `update` has judged
  pub due-judged :
      judged_for due.before due.change
      ≡ length (judged (is_in (contained H.assigned) region) (in_scope L) (users_in H.elements) (numbers_in H.elements))
  due-judged = rw due.asked.0 (judged_listed due.before H due.change L due.led due-of)

pub due-nothing-judged : (L : Lists) (H : Graph) (due : IsDue L H (Within Nothing)) → judged_for due.before due.change ≡ 0
due-nothing-judged L H due = nothing-judged due.before H due.change due.led (sym due.asked.0)

-- ---- a list more or less

inserted-asked : (of : ReviewOf ℕ) (ps : List Pair) (L : Lists) → (inserted of ps L).asked ≡ L.asked
inserted-asked (Caps u) ps L = refl
inserted-asked (Entries e) ps L = refl

removed-asked : (of : ReviewOf ℕ) (L : Lists) → (removed of L).asked ≡ L.asked
removed-asked (Caps u) L = refl
removed-asked (Entries e) L = refl

pub more-charged : (L : Lists) (H : Graph) (of : ReviewOf ℕ) (ps : List Pair) → AreKept L → IsCharged L (inserted of ps L) H (More of)
more-charged L H of ps kept due =
    charged-none L (inserted of ps L) (judged_for due.before due.change) kept.few (inserted-asked of ps L)
    (nothing-judged due.before H due.change due.led (rw due.asked refl))

pub less-charged : (L : Lists) (H : Graph) (of : ReviewOf ℕ) → AreKept L → IsCharged L (removed of L) H (Less of)
less-charged L H of kept due =
    charged-none L (removed of L) (judged_for due.before due.change) kept.few (removed-asked of L)
    (nothing-judged due.before H due.change due.led (rw due.asked.1 refl))

-- ---- where there may be none

pub if-charged : (old taken lists : Option Lists) (G H : Graph) (c : Change) (asked : Repair) → IsWellFormed G → IsNamed G c → effect G c ≡ Ok H →
    IsAsked G c asked → taken ≡ old → IfSome old (λ (L : Lists). AreListed L G) →
    IfSome lists (λ (M : Lists). IsSomeAnd taken (λ (L : Lists). IsCharged L M H asked)) → (M : Lists) → lists ≡ Some M →
    asked_of lists ≡ capped (asked_of old + judged_for G c)
if-charged None taken lists G H c asked f named made is same are charged M some = absurd (rw (some, same) at charged)
if-charged (Some L) taken lists G H c asked f named made is same are charged M some =
    let adds : IsCharged L M H asked = rw (some, same) at charged in
    ap asked_of some ∙ adds (record { before = G; change = c; formed = f; named = named; led = made; listed = are; asked = is })

-- ---- rows

-- a count and the rows of one change more make the count of all
pub rows-counted : (before more after sum by all rows : ℕ) → before ≡ capped sum → more ≡ rows → by ≡ rows → all ≡ sum + by →
    after ≡ min (before + more) 18446744073709551615 → after ≡ capped all
rows-counted before more after sum by all rows so adds is whole added = omega (arith, so, adds, is, whole, added)

pub rows-added : (before more after rows : ℕ) → more ≡ rows → after ≡ min (before + more) 18446744073709551615 → after ≡ capped (before + rows)
rows-added before more after rows adds added = omega (arith, adds, added)
