-- Lists that stand beside a graph: none at the opening, and with the changes that make none up.
use Rattle.std.proofs.Common.{◌≡◌, ◌<◌, ℕ, Bool, true, false, List, [], length, Option, Some, None, IfSome, IsSomeAnd, Ok, inl, inr, slice_get, slice_set, refl, sym, ◌∙◌, ap, subst, arith}
use Rattle.std.specs.List.{list_any}
use Rattle.std.proofs.lemmas.Option.{slice_get_cases}
use Rattle.pm_model.specs.State.{Graph}
use Rattle.pm_model.specs.KeptReviews.{KeptReview, is_kept_of}
use Rattle.pm_model.specs.Reviews.{list_of}
use Rattle.pm_model.specs.Effect.{effect, changed, refusal}
use Rattle.pm_model.specs.Formed.{IsNamed, IsWellFormed}
use Rattle.pm_model.specs.declared.requests.Change.{Change}
use Rattle.pm_model.specs.declared.requests.Change.TheVariants.{Create, Delete, Assign, Deassign, Associate, Dissociate, OpenSession, CloseSession, StartProcess, EndProcess, Prohibit, Lift, Oblige, Withdraw, DefineRight, Keep, DropReview}
use Rattle.pm_model.specs.declared.reviews.Changed.{Changed}
use Rattle.pm_model.specs.declared.reviews.Pair.{Pair}
use Rattle.pm_model.specs.declared.reviews.ReviewOf.{ReviewOf}
use Rattle.pm_model.specs.declared.reviews.ReviewOf.TheVariants.{Caps, Entries}
use Rattle.pm_laws.proofs.Checks.{unless-ok}
use Rattle.pm_affect.specs.Lists.{Lists, all_copied, list_in, was_in}
use Rattle.pm_affect.specs.Right.{WereLists}
use Rattle.pm_affect.proofs.Were.{copied-in, found-were}
use Rattle.pm_state.specs.Listing.{AreListed, keeps, kept_list}
use Rattle.pm_state.specs.Repairs.{IsAsked, IsDue, KeepsWere, is_of_reviews}
use Rattle.pm_state.specs.declared.repairs.Repair.{Repair}
use Rattle.pm_state.proofs.LastSet.{last_set, any-set}

-- ---- which reviews have lists

pub kept-listed : (G : Graph) (of : ReviewOf ℕ) → list_any (is_kept_of of) G.kept ≡ true → kept_list G of ≡ Some (list_of G of)
unfolding kept_list
kept-listed G of is = rw is refl

pub unkept-listed : (G : Graph) (of : ReviewOf ℕ) → list_any (is_kept_of of) G.kept ≡ false → kept_list G of ≡ None
unfolding kept_list
unkept-listed G of is = rw is refl

pub listed-kept : (G : Graph) (of : ReviewOf ℕ) (ps : List Pair) → kept_list G of ≡ Some ps →
    (list_any (is_kept_of of) G.kept ≡ true) × (ps ≡ list_of G of)
listed-kept G of ps h = by (list_any (is_kept_of of) G.kept) refl where
  by : (b : Bool) → list_any (is_kept_of of) G.kept ≡ b → (list_any (is_kept_of of) G.kept ≡ true) × (ps ≡ list_of G of)
  by true is = (is, let here = kept-listed G of is in cc)
  by false is = absurd (let here = unkept-listed G of is in cc)

-- ---- where none is kept

pub none-listed : (L : Lists) (G : Graph) → G.kept ≡ [] → ((of : ReviewOf ℕ) → list_in L of ≡ None) → AreListed L G
none-listed L G none are of = are of ∙ sym (unkept-listed G of (ap (λ (ks : List KeptReview). list_any (is_kept_of of) ks) none))

pub listed-none : (L : Lists) (G : Graph) → AreListed L G → G.kept ≡ [] → (of : ReviewOf ℕ) → list_in L of ≡ None
listed-none L G are none of = are of ∙ unkept-listed G of (ap (λ (ks : List KeptReview). list_any (is_kept_of of) ks) none)

abbrev no_lists : Lists
no_lists = record { caps = []; entries = []; asked = 0 }

pub empty-listed : (G : Graph) → G.kept ≡ [] → AreListed no_lists G
empty-listed G none = none-listed no_lists G none of where
  of : (r : ReviewOf ℕ) → list_in no_lists r ≡ None
  of (Caps u) = refl
  of (Entries e) = refl

-- no change but to keep one makes it otherwise
pub none-changed : (G : Graph) (c : Change) → keeps c ≡ false → G.kept ≡ [] → (changed G c).kept ≡ []
none-changed G (Create id kind name into) but none = none
none-changed G (Delete id) but none = none
none-changed G (Assign x y) but none = none
none-changed G (Deassign x y) but none = none
none-changed G (Associate u r t) but none = none
none-changed G (Dissociate u t) but none = none
none-changed G (OpenSession u) but none = none
none-changed G (CloseSession k) but none = none
none-changed G (StartProcess k) but none = none
none-changed G (EndProcess k) but none = none
none-changed G (Prohibit p) but none = none
none-changed G (Lift i) but none = none
none-changed G (Oblige o) but none = none
none-changed G (Withdraw i) but none = none
none-changed G (DefineRight name) but none = none
none-changed G (Keep of) but none = absurd (cc)
none-changed G (DropReview n) but none = rw none refl

pub alone-listed : (G H : Graph) (c : Change) (L : Lists) → keeps c ≡ false → G.kept ≡ [] → effect G c ≡ Ok H → AreListed L G → AreListed L H
alone-listed G H c L but none made are =
    let new : changed G c ≡ H = (unless-ok (refusal G c) (changed G c) H made).1 in
    none-listed L H (sym (ap (λ (K : Graph). K.kept) new) ∙ none-changed G c but none) (listed-none L G are none)

-- ---- the kept reviews stay

pub reviews-stay : (G H : Graph) (c : Change) → is_of_reviews c ≡ false → effect G c ≡ Ok H → H.kept ≡ G.kept
reviews-stay G H c but made =
    let new : changed G c ≡ H = (unless-ok (refusal G c) (changed G c) H made).1 in
    sym (ap (λ (K : Graph). K.kept) new) ∙ of c but where
      of : (c : Change) → is_of_reviews c ≡ false → (changed G c).kept ≡ G.kept
      of (Create id kind name into) but = refl
      of (Delete id) but = refl
      of (Assign x y) but = refl
      of (Deassign x y) but = refl
      of (Associate u r t) but = refl
      of (Dissociate u t) but = refl
      of (OpenSession u) but = refl
      of (CloseSession k) but = refl
      of (StartProcess k) but = refl
      of (EndProcess k) but = refl
      of (Prohibit p) but = refl
      of (Lift i) but = refl
      of (Oblige o) but = refl
      of (Withdraw i) but = refl
      of (DefineRight name) but = refl
      of (Keep r) but = absurd (cc)
      of (DropReview n) but = absurd (cc)

-- no kept review is in a list
pub list-alike : (G : Graph) (ks : List KeptReview) (of : ReviewOf ℕ) → list_of (record G { kept = ks }) of ≡ list_of G of
list-alike G ks (Caps u) = refl
list-alike G ks (Entries e) = refl

-- what is kept of the same is listed the same
pub same-listed : (G : Graph) (ks : List KeptReview) (of : ReviewOf ℕ) → list_any (is_kept_of of) ks ≡ list_any (is_kept_of of) G.kept →
    kept_list (record G { kept = ks }) of ≡ kept_list G of
same-listed G ks of same = by (list_any (is_kept_of of) G.kept) refl where
  by : (b : Bool) → list_any (is_kept_of of) G.kept ≡ b → kept_list (record G { kept = ks }) of ≡ kept_list G of
  by true is = kept-listed (record G { kept = ks }) of (same ∙ is) ∙ ap (λ (l : List Pair). Some l) (list-alike G ks of) ∙ sym (kept-listed G of is)
  by false is = unkept-listed (record G { kept = ks }) of (same ∙ is) ∙ sym (unkept-listed G of is)

-- a last change that is set
pub listed-set : (L : Lists) (G K : Graph) (i at : ℕ) (told : List Changed) → i < length G.kept →
    ((k : KeptReview) → slice_get G.kept i ≡ Some k → K ≡ record G { kept = slice_set G.kept i (last_set at told k) }) → AreListed L G → AreListed L K
listed-set L G K i at told within set are of = elim ((slice_get_cases G.kept i).1) [
  | inl here ↦
      let k = here.0 in
      are of ∙ sym (same-listed G (slice_set G.kept i (last_set at told k)) of (any-set at told k of G.kept i here.2))
      ∙ ap (λ (J : Graph). kept_list J of) (sym (set k here.2))
  | inr past ↦ absurd (omega (arith, within, past.0))
]

-- ---- where there may be none

pub if-set : (lists : Option Lists) (G K : Graph) (i at : ℕ) (told : List Changed) → i < length G.kept →
    ((k : KeptReview) → slice_get G.kept i ≡ Some k → K ≡ record G { kept = slice_set G.kept i (last_set at told k) }) →
    IfSome lists (λ (L : Lists). AreListed L G) → IfSome lists (λ (L : Lists). AreListed L K)
if-set None G K i at told within set are = tt
if-set (Some L) G K i at told within set are = listed-set L G K i at told within set are

pub if-due : (old lists : Option Lists) (G H : Graph) (c : Change) (asked : Repair) → IsWellFormed G → IsNamed G c → effect G c ≡ Ok H →
    IsAsked G c asked → lists ≡ old → IfSome old (λ (L : Lists). AreListed L G) → IfSome lists (λ (L : Lists). IsDue L H asked)
if-due old lists G H c asked f named made is same are = of lists (subst (λ (o : Option Lists). IfSome o (λ (L : Lists). AreListed L G)) (sym same) are) where
  of : (o : Option Lists) → IfSome o (λ (L : Lists). AreListed L G) → IfSome o (λ (L : Lists). IsDue L H asked)
  of None are = tt
  of (Some L) are = record { before = G; change = c; formed = f; named = named; led = made; listed = are; asked = is }

pub if-were : (old taken lists : Option Lists) (G : Graph) → taken ≡ old → IfSome old (λ (L : Lists). WereLists G L) →
    IfSome lists (λ (M : Lists). IsSomeAnd taken (λ (L : Lists). KeepsWere L M)) → IfSome lists (λ (M : Lists). WereLists G M)
if-were None taken None G same are keeps = tt
if-were None taken (Some M) G same are keeps = absurd (rw same at keeps)
if-were (Some L) taken None G same are keeps = tt
if-were (Some L) taken (Some M) G same are keeps = let stays : KeepsWere L M = rw same at keeps in stays G are

-- ---- copies

pub copied-listed : (L : Lists) (G : Graph) → AreListed L G → AreListed (all_copied L) G
copied-listed L G are of = copied-in L of ∙ are of

-- a list that is what it was, when it was the graph's that was before
pub list-stays : (L : Lists) (G H : Graph) (of : ReviewOf ℕ) → AreListed L H → list_any (is_kept_of of) H.kept ≡ true → WereLists G L →
    was_in L of ≡ list_in L of → list_of G of ≡ list_of H of
list-stays L G H of are kept were same =
    let there : was_in L of ≡ Some (list_of H of) = same ∙ are of ∙ kept-listed H of kept in
    let was : list_of H of ≡ list_of G of = subst (λ (o : Option (List Pair)). IfSome o (λ (ps : List Pair). ps ≡ list_of G of)) there (found-were G of L were) in
    sym was

-- ---- what is found of a kept review is its list

module _ (L : Lists) (G : Graph) (of : ReviewOf ℕ) (found : Option (List Pair)) (are : AreListed L G)
    (kept : list_any (is_kept_of of) G.kept ≡ true) (is : found ≡ list_in L of) where
  is-stored : found ≡ Some (list_of G of)
  is-stored = is ∙ are of ∙ kept-listed G of kept

  pub stored-none : found ≡ None → ⊥
  stored-none none = let stored = is-stored in cc

  pub stored-some : (ps : List Pair) → found ≡ Some ps → ps ≡ list_of G of
  stored-some ps some = let stored = is-stored in cc
