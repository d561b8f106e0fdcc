-- Changes that leave the kept reviews: those that touch none of them.
use Rattle.std.proofs.Common.{◌≡◌, ℕ, zero, suc, Bool, true, false, List, [], Ok, Option, Some, None, refl, sym, ◌∙◌, ap, subst, eq-eqb}
use Rattle.std.specs.List.{list_any}
use Rattle.std.proofs.lemmas.Slice.Eq.{bytes_eq-Decides}
use Rattle.pm_model.specs.State.{Graph, name_numbered}
use Rattle.pm_model.specs.Containment.{contained}
use Rattle.pm_model.specs.Effect.{changed, effect, refusal}
use Rattle.pm_model.specs.Formed.{IsLive, IsNamed, IsUser, IsWellFormed}
use Rattle.pm_model.specs.KeptReviews.{KeptReview, is_kept_as, is_kept_of, is_same, kept_at}
use Rattle.pm_model.specs.LastChanges.{changes_at, changes_below, changes_between, changes_in, rights_listed, settled_review, with_changes, with_last}
use Rattle.pm_model.specs.Reviews.{list_of, numbers_in, rights_in, users_in}
use Rattle.pm_model.specs.declared.elements.Element.{Element}
use Rattle.pm_model.specs.declared.requests.Change.{Change}
use Rattle.pm_model.specs.declared.requests.Change.TheVariants.{Create, Delete, Assign, Deassign, Associate, Dissociate, OpenSession, CloseSession, StartProcess, EndProcess, Prohibit, Lift, Oblige, Withdraw, DefineRight, Keep, DropReview}
use Rattle.pm_model.specs.declared.reviews.Changed.{Changed}
use Rattle.pm_model.specs.declared.reviews.Pair.{Pair}
use Rattle.pm_model.specs.declared.reviews.ReviewOf.{ReviewOf}
use Rattle.pm_laws.proofs.Checks.{unless-ok}
use Rattle.pm_laws.proofs.Ends.{user-lives}
use Rattle.pm_laws.proofs.Formed.{formed-effect}
use Rattle.pm_laws.proofs.Items.{any-from, each-all, each-map, each-to, find-found}
use Rattle.pm_laws.proofs.KeptReviews.{is-same, map-stays, same-is, with_changes_none}
use Rattle.pm_decide.specs.Live as decide
use Rattle.pm_affect.specs.Affected.{region_of}
use Rattle.pm_affect.specs.Lists.{AreKept, Listed, Lists, subjects}
use Rattle.pm_affect.specs.Right.{AreLive}
use Rattle.pm_affect.specs.declared.region.Region.{Region}
use Rattle.pm_affect.proofs.Before.{all_rise, lists_right, users_rise}
use Rattle.pm_affect.proofs.Counting.{judged-never, judged-untouched}
use Rattle.pm_affect.proofs.Lemma.{region_kept}
use Rattle.pm_affect.proofs.Untouched.{AreUntouched, caps_untouched, entries_untouched}
use Rattle.pm_state.specs.Containing.{relation_in}
use Rattle.pm_state.specs.Leaving.{LeavesReviews, alters}
use Rattle.pm_state.specs.Listing.{AreListed, keeps, kept_list}
use Rattle.pm_state.specs.Repairs.{IsDue, is_of_reviews}
use Rattle.pm_state.specs.declared.repairs.Repair.TheVariants.{Within}
use Rattle.pm_state.proofs.Charged.{listed-of, none-judged}
use Rattle.pm_state.proofs.Listed.{kept-listed, none-changed, reviews-stay, unkept-listed}
use Rattle.pm_state.proofs.Repaired.{anew-listed, are-lists, are-live}

-- ---- what lists are of may be asked about

module _ (L : Lists) (G : Graph) (live : AreLive G L) where
  pub users-live : decide.AllLive (relation_in G) (subjects L.caps)
  users-live = each-all (decide.IsLive (relation_in G)) (subjects L.caps)
      (each-map (decide.IsLive (relation_in G)) (λ (k : Listed). k.subject) L.caps
      (each-to (λ (k : Listed). IsUser G.elements k.subject) (λ (k : Listed). IsLive G.elements k.subject) (λ k user. user-lives G.elements k.subject user) L.caps live.caps))

  pub elements-live : decide.AllLive (relation_in G) (subjects L.entries)
  elements-live = each-all (decide.IsLive (relation_in G)) (subjects L.entries)
      (each-map (decide.IsLive (relation_in G)) (λ (k : Listed). k.subject) L.entries live.entries)

-- ---- lists that a change doesn't touch are those of the graph after it

module _ (G H : Graph) (c : Change) (L : Lists) (f : IsWellFormed G) (n : IsNamed G c) (made : effect G c ≡ Ok H) (stay : is_of_reviews c ≡ false)
    (kept : AreKept L) (are : AreListed L G) where
  pub untouched-listed : AreUntouched (contained H.assigned) (region_of G c) L → AreListed L H
  untouched-listed far =
      let g = formed-effect G H c f n made in
      let same = reviews-stay G H c stay made in
      let right = lists_right G H c f n made L (are-lists L kept G are) (are-live L kept G H g same are) in
      anew-listed L L H
      (caps_untouched (contained H.assigned) (region_of G c) (rights_in H) (numbers_in H.elements) (users_in H.elements) L (all_rise H g) kept right far)
      (entries_untouched (contained H.assigned) (region_of G c) (rights_in H) (numbers_in H.elements) (users_in H.elements) L (users_rise H g) kept right far)
      G same are

  -- also where it was asked before the change
  pub far-listed : AreUntouched (contained G.assigned) (region_of G c) L → AreListed L H
  far-listed far = untouched-listed (λ u e scope. region_kept G H c u e f n made ∙ far u e scope)

-- by what is due
pub due-untouched : (L : Lists) (H : Graph) (region : Region) → AreKept L → IsDue L H (Within region) → AreUntouched (contained H.assigned) region L →
    AreListed L H
due-untouched L H region kept due far =
    untouched-listed due.before H due.change L due.formed due.named due.led due.asked.1 kept due.listed
    (subst (λ (r : Region). AreUntouched (contained H.assigned) r L) due.asked.0 far)

-- ---- a list and itself

module _ (names : ℕ → List ℕ) (ps : List Pair) where
  none-at : (n : ℕ) → changes_at names names ps ps n ≡ []
  none-at n = rw ((bytes_eq-Decides (names n) (names n)).1 refl, eq-eqb (rights_listed ps n) (rights_listed ps n) refl) refl

  none-below : (n : ℕ) → changes_below names names ps ps n ≡ []
  unfolding changes_below
  none-below zero = refl
  none-below (suc n) = rw (none-below n, none-at n) refl

-- ---- no last change

module _ (G H : Graph) (elements : H.elements ≡ G.elements) (kept : H.kept ≡ G.kept) (lists : (of : ReviewOf ℕ) → kept_list H of ≡ kept_list G of) where
  list-stays : (of : ReviewOf ℕ) → list_any (is_kept_of of) G.kept ≡ true → list_of H of ≡ list_of G of
  list-stays of is =
      let was = kept-listed G of is in
      let now = kept-listed H of (ap (λ (ks : List KeptReview). list_any (is_kept_of of) ks) kept ∙ is) in
      let same = lists of in cc

  nothing-changes : (of : ReviewOf ℕ) → list_any (is_kept_of of) G.kept ≡ true → changes_in G H of ≡ []
  nothing-changes of is =
      ap (λ (es : List Element). changes_between (name_numbered G.elements) (name_numbered es) (list_of G of) (list_of H of)) elements
      ∙ ap (λ (l : List Pair). changes_between (name_numbered G.elements) (name_numbered G.elements) (list_of G of) l) (list-stays of is)
      ∙ none-below (name_numbered G.elements) (list_of G of) _

  review-stays : (version : ℕ) (k : KeptReview) → settled_review G H version k ≡ k
  review-stays version k = by (kept_at G.kept k.number) refl where
    by : (o : Option KeptReview) → kept_at G.kept k.number ≡ o → settled_review G H version k ≡ k
    by None is = rw is refl
    by (Some before) is = of (is_same before.of k.of) refl where
      of : (b : Bool) → is_same before.of k.of ≡ b → settled_review G H version k ≡ k
      of false so = rw (is, so) refl
      of true so =
          let there : list_any (is_kept_of k.of) G.kept ≡ true =
          any-from (is_kept_of k.of) G.kept before (find-found (is_kept_as k.number) G.kept before is).0 (rw (same-is before.of k.of so) (is-same k.of)) in
          let last : settled_review G H version k ≡ with_last version (changes_in G H k.of) k = rw (is, so) refl in
          last ∙ ap (λ (l : List Changed). with_last version l k) (nothing-changes k.of there)

  reviews-settled : (version : ℕ) → with_changes G version H ≡ H
  reviews-settled version = ap (λ (ks : List KeptReview). record H { kept = ks }) (map-stays (settled_review G H version) (review-stays version) H.kept)

-- ---- changes that leave the kept reviews

pub leaves-none : (G : Graph) (c : Change) → G.kept ≡ [] → keeps c ≡ false → LeavesReviews G c
leaves-none G c none but = record {
  lists = λ H made of.
      unkept-listed H of (ap (λ (ks : List KeptReview). list_any (is_kept_of of) ks) (still H made))
      ∙ sym (unkept-listed G of (ap (λ (ks : List KeptReview). list_any (is_kept_of of) ks) none));
  settled = λ H made version. with_changes_none G H version none;
  judged = judged-never G c (λ H made. none-judged G H c made (still H made));
} where
  still : (H : Graph) → effect G c ≡ Ok H → H.kept ≡ []
  still H made =
      let new : changed G c ≡ H = (unless-ok (refusal G c) (changed G c) H made).1 in
      sym (ap (λ (K : Graph). K.kept) new) ∙ none-changed G c but none

alters-reviews : (c : Change) → alters c ≡ false → is_of_reviews c ≡ false
alters-reviews (Create id kind name into) but = refl
alters-reviews (Delete id) but = refl
alters-reviews (Assign x y) but = refl
alters-reviews (Deassign x y) but = refl
alters-reviews (Associate u r t) but = refl
alters-reviews (Dissociate u t) but = refl
alters-reviews (OpenSession u) but = refl
alters-reviews (CloseSession k) but = refl
alters-reviews (StartProcess k) but = refl
alters-reviews (EndProcess k) but = refl
alters-reviews (Prohibit p) but = refl
alters-reviews (Lift i) but = refl
alters-reviews (Oblige o) but = refl
alters-reviews (Withdraw i) but = refl
alters-reviews (DefineRight name) but = refl
alters-reviews (Keep of) but = absurd (cc)
alters-reviews (DropReview n) but = absurd (cc)

elements-changed : (G : Graph) (c : Change) → alters c ≡ false → (changed G c).elements ≡ G.elements
elements-changed G (Create id kind name into) but = absurd (cc)
elements-changed G (Delete id) but = absurd (cc)
elements-changed G (Assign x y) but = refl
elements-changed G (Deassign x y) but = refl
elements-changed G (Associate u r t) but = refl
elements-changed G (Dissociate u t) but = refl
elements-changed G (OpenSession u) but = refl
elements-changed G (CloseSession k) but = refl
elements-changed G (StartProcess k) but = refl
elements-changed G (EndProcess k) but = refl
elements-changed G (Prohibit p) but = refl
elements-changed G (Lift i) but = refl
elements-changed G (Oblige o) but = refl
elements-changed G (Withdraw i) but = refl
elements-changed G (DefineRight name) but = refl
elements-changed G (Keep of) but = absurd (cc)
elements-changed G (DropReview n) but = absurd (cc)

pub leaves-far : (G : Graph) (c : Change) (L : Lists) → IsWellFormed G → IsNamed G c → AreKept L → AreListed L G → alters c ≡ false →
    AreUntouched (contained G.assigned) (region_of G c) L → LeavesReviews G c
leaves-far G c L f n kept are but far = record {
  lists = λ H made. stays H made;
  settled = λ H made version.
      let new : changed G c ≡ H = (unless-ok (refusal G c) (changed G c) H made).1 in
      let elements : H.elements ≡ G.elements = sym (ap (λ (K : Graph). K.elements) new) ∙ elements-changed G c but in
      reviews-settled G H elements (reviews-stay G H c (alters-reviews c but) made) (stays H made) version;
  judged = judged-never G c (λ H made.
      judged-untouched G H c L made
      (λ of. listed-of L G are of ∙ ap (λ (ks : List KeptReview). list_any (is_kept_of of) ks) (sym (reviews-stay G H c (alters-reviews c but) made)))
      (λ u e scope. region_kept G H c u e f n made ∙ far u e scope));
} where
  stays : (H : Graph) → effect G c ≡ Ok H → (of : ReviewOf ℕ) → kept_list H of ≡ kept_list G of
  stays H made of = sym (far-listed G H c L f n made (alters-reviews c but) kept are far of) ∙ are of
