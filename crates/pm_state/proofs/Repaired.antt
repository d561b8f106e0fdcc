-- Lists that are made up for a change are those of the graph after it.
use Rattle.std.proofs.Common.{◌≡◌, ◌||◌, ◌==◌, ℕ, Bool, true, false, not, nat_lt, List, [], ◌∷◌, map, cond, Option, Some, None, option_map, Result, Ok, Err, IfOk, Contains, inl, inr, refl, sym, ◌∙◌, ap, subst}
use Rattle.std.specs.List.{list_any}
use Rattle.std.proofs.lemmas.Bool.{cond_both, eqb-true, false_from_ne_true}
use Rattle.pm_model.specs.State.{Graph}
use Rattle.pm_model.specs.Effect.{changed, checks, effect, refusal}
use Rattle.pm_model.specs.Formed.{AreOnceKept, Each, IsKeptReview, IsLive, IsNamed, IsUser, IsWellFormed}
use Rattle.pm_model.specs.KeptReviews.{KeptReview, is_kept_as, is_kept_of, is_same, kept_at, new_review, subject, unkept, with_review, without_review}
use Rattle.pm_model.specs.Reviews.{list_of, numbers_in, rights_in, users_in}
use Rattle.pm_model.specs.declared.requests.Change.{Change}
use Rattle.pm_model.specs.declared.requests.Change.TheVariants.{Keep, DropReview}
use Rattle.pm_model.specs.declared.reviews.Pair.{Pair}
use Rattle.pm_model.specs.declared.reviews.ReviewOf.{ReviewOf}
use Rattle.pm_model.specs.declared.reviews.ReviewOf.TheVariants.{Caps, Entries}
use Rattle.pm_laws.proofs.Checks.{passed, unless-ok}
use Rattle.pm_laws.proofs.Items.{any-found, any-from, contains-cases, contains-filter, contains-none, each-at, each-from, filter-contains, find-found, none-at, none-from}
use Rattle.pm_laws.proofs.KeptReviews.{is-same, kept-found, kept-is, same-is}
use Rattle.pm_affect.specs.Lists as lists
use Rattle.pm_affect.specs.Lists.{Listed, Lists, inserted, list_in, pairs_of_some, removed}
use Rattle.pm_affect.specs.Affected.{is_of_prohibition, region}
use Rattle.pm_affect.specs.declared.region.Region.{Region}
use Rattle.pm_affect.specs.declared.region.Region.TheVariants.{Nothing}
use Rattle.pm_affect.specs.Right.{AreLists, AreLive, caps_anew, entries_anew}
use Rattle.pm_state.specs.Listing.{AreListed, kept_list}
use Rattle.pm_state.specs.Repairs.{IsAsked, IsDue, drops_review, is_less, is_of_reviews}
use Rattle.pm_state.specs.declared.repairs.Repair.{Repair}
use Rattle.pm_state.specs.declared.repairs.Repair.TheVariants.{More, Less, Within}
use Rattle.pm_state.proofs.Among.{each-some, in-inserted, in-removed, some-map}
use Rattle.pm_state.proofs.Listed.{kept-listed, unkept-listed, listed-kept, list-alike, same-listed, reviews-stay, none-listed, listed-none}
use Rattle.pm_state.proofs.Regions.{elements-stay, lists-alike}

-- ---- one list more

or-swapped : (a b c : Bool) → (a || (b || c)) ≡ (b || (a || c))
or-swapped true true c = refl
or-swapped true false c = refl
or-swapped false true c = refl
or-swapped false false c = refl

any-more : (of : ReviewOf ℕ) (x : KeptReview) (ks : List KeptReview) →
    list_any (is_kept_of of) (with_review x ks) ≡ (is_same of x.of || list_any (is_kept_of of) ks)
any-more of x [] = refl
any-more of x (k ∷ ks) =
    cond_both (nat_lt x.number k.number) (x ∷ k ∷ ks) (k ∷ with_review x ks)
    (λ (l : List KeptReview). list_any (is_kept_of of) l ≡ (is_same of x.of || (is_same of k.of || list_any (is_kept_of of) ks)))
    (λ is. refl)
    (λ is. rw (any-more of x ks) (or-swapped (is_same of k.of) (is_same of x.of) (list_any (is_kept_of of) ks)))

same-turned : (a b : ReviewOf ℕ) → is_same a b ≡ false → is_same b a ≡ false
same-turned a b other = false_from_ne_true (is_same b a) (λ is.
    let yes : is_same a b ≡ true = rw (same-is b a is) (is-same a) in cc)

module _ (G H : Graph) (of : ReviewOf ℕ) (made : effect G (Keep of) ≡ Ok H) where
  more-made : changed G (Keep of) ≡ H
  more-made = (unless-ok (refusal G (Keep of)) (changed G (Keep of)) H made).1

  -- it had none
  pub more-free : (L : Lists) → AreListed L G → list_in L of ≡ None
  more-free L are =
      let p = passed (checks G (Keep of)) (unless-ok (refusal G (Keep of)) (changed G (Keep of)) H made).0 in
      are of ∙ unkept-listed G of p.1.0

  -- and has one now
  more-kept : (to : ReviewOf ℕ) → list_any (is_kept_of to) H.kept ≡ (is_same to of || list_any (is_kept_of to) G.kept)
  more-kept to =
      ap (λ (K : Graph). list_any (is_kept_of to) K.kept) (sym more-made) ∙ any-more to (new_review (unkept G.kept) of) G.kept

  more-alike : (to : ReviewOf ℕ) → list_of H to ≡ list_of G to
  more-alike to = ap (λ (K : Graph). list_of K to) (sym more-made) ∙ list-alike G (changed G (Keep of)).kept to

  pub more-listed : (L : Lists) → AreListed L G → AreListed (inserted of (list_of H of) L) H
  more-listed L are to = in-inserted of to (list_of H of) L ∙ by (is_same of to) refl (list_any (is_kept_of to) G.kept) refl where
    by : (b : Bool) → is_same of to ≡ b → (d : Bool) → list_any (is_kept_of to) G.kept ≡ d →
        cond (is_same of to) (Some (list_of H of)) (list_in L to) ≡ kept_list H to
    by true is d kept =
        let one : of ≡ to = same-is of to is in
        let yes : list_any (is_kept_of to) H.kept ≡ true = more-kept to ∙ rw (one, is-same to) refl in
        rw is (ap (λ (r : ReviewOf ℕ). Some (list_of H r)) one ∙ sym (kept-listed H to yes))
    by false is true kept =
        let yes : list_any (is_kept_of to) H.kept ≡ true = more-kept to ∙ rw (same-turned of to is, kept) refl in
        rw is (are to ∙ kept-listed G to kept ∙ ap (λ (l : List Pair). Some l) (sym (more-alike to)) ∙ sym (kept-listed H to yes))
    by false is false kept =
        let no : list_any (is_kept_of to) H.kept ≡ false = more-kept to ∙ rw (same-turned of to is, kept) refl in
        rw is (are to ∙ unkept-listed G to kept ∙ sym (unkept-listed H to no))

-- ---- one list less

-- of one thing there is one review
once-at : (ks : List KeptReview) (j k : KeptReview) → AreOnceKept ks → Contains ks j → Contains ks k → j.of ≡ k.of → j ≡ k
once-at [] j k h cj ck same = contains-none j cj
once-at (a ∷ ks) j k h cj ck same = elim (contains-cases a j ks cj) [
  | inl aj ↦ elim (contains-cases a k ks ck) [
    | inl ak ↦ sym aj ∙ ak
    | inr bk ↦ absurd (
        let no : is_same a.of k.of ≡ false = none-at (is_kept_of a.of) ks k h.0 bk in
        let yes : is_same a.of k.of ≡ true = rw (ap (λ (x : KeptReview). x.of) aj, same) (is-same k.of) in cc)
  ]
  | inr bj ↦ elim (contains-cases a k ks ck) [
    | inl ak ↦ absurd (
        let no : is_same a.of j.of ≡ false = none-at (is_kept_of a.of) ks j h.0 bj in
        let yes : is_same a.of j.of ≡ true = rw (ap (λ (x : KeptReview). x.of) ak, same) (is-same k.of) in cc)
    | inr bk ↦ once-at ks j k h.1 bj bk same
  ]
]

module _ (G H : Graph) (n : ℕ) (f : IsWellFormed G) (made : effect G (DropReview n) ≡ Ok H) (k : KeptReview) (found : kept_at G.kept n ≡ Some k) where
  less-made : changed G (DropReview n) ≡ H
  less-made = (unless-ok (refusal G (DropReview n)) (changed G (DropReview n)) H made).1

  less-gone : list_any (is_kept_of k.of) (without_review n G.kept) ≡ false
  less-gone = none-from (is_kept_of k.of) (without_review n G.kept) (λ j c.
      false_from_ne_true (is_same k.of j.of) (λ is.
      let there = filter-contains (λ k. not (is_kept_as n k)) G.kept j c in
      let here = kept-is G.kept n k found in
      let one : j ≡ k = once-at G.kept j k f.kept.once there.0 here.0 (sym (same-is k.of j.of is)) in
      let number : (j.number == n) ≡ true = rw one (find-found (is_kept_as n) G.kept k found).1 in
      let other : not (j.number == n) ≡ true = there.1 in
      let no : not true ≡ true = rw number at other in cc))

  less-stays : (to : ReviewOf ℕ) → is_same k.of to ≡ false → list_any (is_kept_of to) (without_review n G.kept) ≡ list_any (is_kept_of to) G.kept
  less-stays to other = by (list_any (is_kept_of to) G.kept) refl where
    by : (b : Bool) → list_any (is_kept_of to) G.kept ≡ b → list_any (is_kept_of to) (without_review n G.kept) ≡ list_any (is_kept_of to) G.kept
    by true is =
        let p = any-found (is_kept_of to) G.kept is in
        let apart : (p.0.number == n) ≡ false = false_from_ne_true (p.0.number == n) (λ same.
        let again : kept_at G.kept n ≡ Some p.0 = ap (kept_at G.kept) (sym (eqb-true p.0.number n same)) ∙ kept-found G.elements G.kept p.0 f.kept p.1 in
        let one : p.0 ≡ k = cc in
        let yes : is_same k.of to ≡ true = rw (← one, ← same-is to p.0.of p.2) (is-same to) in cc) in
        any-from (is_kept_of to) (without_review n G.kept) p.0
        (contains-filter (λ k. not (is_kept_as n k)) G.kept p.0 p.1 (rw apart refl)) p.2 ∙ sym is
    by false is =
        none-from (is_kept_of to) (without_review n G.kept)
        (λ j c. none-at (is_kept_of to) G.kept j is (filter-contains (λ k. not (is_kept_as n k)) G.kept j c).0) ∙ sym is

  pub less-listed : (L : Lists) → AreListed L G → AreListed (removed k.of L) H
  less-listed L are to = subst (λ (K : Graph). list_in (removed k.of L) to ≡ kept_list K to) less-made (in-removed k.of to L ∙ by (is_same k.of to) refl) where
    by : (b : Bool) → is_same k.of to ≡ b → cond (is_same k.of to) None (list_in L to) ≡ kept_list (changed G (DropReview n)) to
    by true is =
        let no : list_any (is_kept_of to) (without_review n G.kept) ≡ false =
        ap (λ (r : ReviewOf ℕ). list_any (is_kept_of r) (without_review n G.kept)) (sym (same-is k.of to is)) ∙ less-gone in
        rw is (sym (unkept-listed (changed G (DropReview n)) to no))
    by false is = rw is (are to ∙ sym (same-listed G (without_review n G.kept) to (less-stays to is)))

-- ---- the lists that there are

module _ (L : Lists) (kept : lists.AreKept L) where
  caps-found : Each (λ (k : Listed). list_in L (Caps k.subject) ≡ Some k.pairs) L.caps
  caps-found = each-some L.caps kept.caps.rise

  entries-found : Each (λ (k : Listed). list_in L (Entries k.subject) ≡ Some k.pairs) L.entries
  entries-found = each-some L.entries kept.entries.rise

  -- they are those of the graph
  pub are-lists : (G : Graph) → AreListed L G → AreLists G L
  are-lists G are = record {
    caps = each-from (λ (k : Listed). k.pairs ≡ list_of G (Caps k.subject)) L.caps (λ k c.
        (listed-kept G (Caps k.subject) k.pairs (sym (are (Caps k.subject))
        ∙ each-at (λ (k : Listed). list_in L (Caps k.subject) ≡ Some k.pairs) L.caps k caps-found c)).1);
    entries = each-from (λ (k : Listed). k.pairs ≡ list_of G (Entries k.subject)) L.entries (λ k c.
        (listed-kept G (Entries k.subject) k.pairs (sym (are (Entries k.subject))
        ∙ each-at (λ (k : Listed). list_in L (Entries k.subject) ≡ Some k.pairs) L.entries k entries-found c)).1);
  }

  -- what a list is of is kept
  review-at : (G H : Graph) (of : ReviewOf ℕ) (ps : List Pair) → IsWellFormed H → H.kept ≡ G.kept → AreListed L G → list_in L of ≡ Some ps →
      (j : KeptReview) × (j.of ≡ of) × IsKeptReview H.elements j
  review-at G H of ps f same are there =
      let any : list_any (is_kept_of of) H.kept ≡ true =
      ap (λ (ks : List KeptReview). list_any (is_kept_of of) ks) same ∙ (listed-kept G of ps (sym (are of) ∙ there)).0 in
      let p = any-found (is_kept_of of) H.kept any in
      (p.0, sym (same-is of p.0.of p.2), each-at (IsKeptReview H.elements) H.kept p.0 f.kept.each p.1)

  -- and so live
  pub are-live : (G H : Graph) → IsWellFormed H → H.kept ≡ G.kept → AreListed L G → AreLive H L
  are-live G H f same are = record {
    caps = each-from (λ (k : Listed). IsUser H.elements k.subject) L.caps (λ k c.
        let there = each-at (λ (k : Listed). list_in L (Caps k.subject) ≡ Some k.pairs) L.caps k caps-found c in
        let j = review-at G H (Caps k.subject) k.pairs f same are there in
        rw j.1 at j.2.kinds);
    entries = each-from (λ (k : Listed). IsLive H.elements k.subject) L.entries (λ k c.
        let there = each-at (λ (k : Listed). list_in L (Entries k.subject) ≡ Some k.pairs) L.entries k entries-found c in
        let j = review-at G H (Entries k.subject) k.pairs f same are there in
        rw j.1 at j.2.live);
  }

-- once all of them are as they are asked for in the graph after the change
module _ (L M : Lists) (H : Graph) (caps : M.caps ≡ map (caps_anew (rights_in H) (numbers_in H.elements)) L.caps)
    (entries : M.entries ≡ map (entries_anew (rights_in H) (users_in H.elements)) L.entries) where
  in-anew : (of : ReviewOf ℕ) → list_in M of ≡ option_map (λ (ps : List Pair). list_of H of) (list_in L of)
  in-anew (Caps u) =
      ap (pairs_of_some u) caps
      ∙ some-map u (caps_anew (rights_in H) (numbers_in H.elements)) (list_of H (Caps u)) (λ k. refl) (λ k is. rw is refl) L.caps
  in-anew (Entries e) =
      ap (pairs_of_some e) entries
      ∙ some-map e (entries_anew (rights_in H) (users_in H.elements)) (list_of H (Entries e)) (λ k. refl) (λ k is. rw is refl) L.entries

  pub anew-listed : (G : Graph) → H.kept ≡ G.kept → AreListed L G → AreListed M H
  anew-listed G same are of = in-anew of ∙ ap (option_map (λ (ps : List Pair). list_of H of)) (are of) ∙ by (list_any (is_kept_of of) G.kept) refl where
    by : (b : Bool) → list_any (is_kept_of of) G.kept ≡ b → option_map (λ (ps : List Pair). list_of H of) (kept_list G of) ≡ kept_list H of
    by true is =
        let yes : list_any (is_kept_of of) H.kept ≡ true = ap (λ (ks : List KeptReview). list_any (is_kept_of of) ks) same ∙ is in
        rw (kept-listed G of is) (sym (kept-listed H of yes))
    by false is =
        let no : list_any (is_kept_of of) H.kept ≡ false = ap (λ (ks : List KeptReview). list_any (is_kept_of of) ks) same ∙ is in
        rw (unkept-listed G of is) (sym (unkept-listed H of no))

-- ---- by what is due

pub due-same : (L : Lists) (H : Graph) (region : Region) (due : IsDue L H (Within region)) → H.kept ≡ due.before.kept
due-same L H region due = reviews-stay due.before H due.change due.asked.1 due.led

pub due-keep : (L : Lists) (H : Graph) (of : ReviewOf ℕ) (due : IsDue L H (More of)) → effect due.before (Keep of) ≡ Ok H
due-keep L H of due = rw due.asked at due.led

pub due-drop : (L : Lists) (H : Graph) (of : ReviewOf ℕ) → IsDue L H (Less of) → AreListed (removed of L) H
due-drop L H of due = by (kept_at due.before.kept due.asked.0) refl due.asked.2 where
  by : (o : Option KeptReview) → kept_at due.before.kept due.asked.0 ≡ o → option_map (λ (k : KeptReview). k.of) o ≡ Some of → AreListed (removed of L) H
  by None is h = absurd (cc)
  by (Some k) is h =
      let one : k.of ≡ of = cc in
      subst (λ (r : ReviewOf ℕ). AreListed (removed r L) H) one
      (less-listed due.before H due.asked.0 due.formed (rw due.asked.1 at due.led) k is L due.listed)

pub due-none : (L : Lists) (H : Graph) (region : Region) → IsDue L H (Within region) → H.kept ≡ [] → AreListed L H
due-none L H region due none =
    none-listed L H none (listed-none L due.before due.listed (sym (due-same L H region due) ∙ none))

-- outside the region of a change, rights are those before
abbrev AreKeptOutside : Type 0
AreKeptOutside = (G H : Graph) (c : Change) (u e : ℕ) → IsWellFormed G → IsNamed G c → effect G c ≡ Ok H → IsLive G.elements u → IsLive G.elements e →
    IsLive H.elements u → IsLive H.elements e → region G c u e ≡ false → rights_in H u e ≡ rights_in G u e

module _ (L : Lists) (H : Graph) (outside : AreKeptOutside) (due : IsDue L H (Within Nothing)) where
  nothing-lists : (of : ReviewOf ℕ) → list_any (is_kept_of of) due.before.kept ≡ true → list_of H of ≡ list_of due.before of
  nothing-lists of is =
      let G = due.before in
      let c = due.change in
      let same : H.elements ≡ G.elements = elements-stay G H c due.led (sym due.asked.0) in
      let j = any-found (is_kept_of of) G.kept is in
      let live : IsLive G.elements (subject of) =
      rw (same-is of j.0.of j.2) (each-at (IsKeptReview G.elements) G.kept j.0 due.formed.kept.each j.1).live in
      lists-alike G H due.formed same (λ u e lu le. outside G H c u e due.formed due.named due.led lu le (rw same lu) (rw same le) (rw (← due.asked.0) refl)) of live

  pub due-nothing : AreListed L H
  due-nothing of = due.listed of ∙ by (list_any (is_kept_of of) due.before.kept) refl where
    by : (b : Bool) → list_any (is_kept_of of) due.before.kept ≡ b → kept_list due.before of ≡ kept_list H of
    by true is =
        let yes : list_any (is_kept_of of) H.kept ≡ true = ap (λ (ks : List KeptReview). list_any (is_kept_of of) ks) (due-same L H Nothing due) ∙ is in
        kept-listed due.before of is ∙ ap (λ (l : List Pair). Some l) (sym (nothing-lists of is)) ∙ sym (kept-listed H of yes)
    by false is =
        let no : list_any (is_kept_of of) H.kept ≡ false = ap (λ (ks : List KeptReview). list_any (is_kept_of of) ks) (due-same L H Nothing due) ∙ is in
        unkept-listed due.before of is ∙ sym (unkept-listed H of no)

-- ---- where there are some

pub if-both : {X E : Type 0} (r : Result X E) (P Q S : X → Type 0) → ((x : X) → P x → Q x → S x) → IfOk r P → IfOk r Q → IfOk r S
if-both (Ok x) P Q S both p q = both x p q
if-both (Err why) P Q S both p q = tt

of-reviews : (c : Change) → drops_review c ≡ true → is_of_reviews c ≡ true
of-reviews (DropReview n) drops = refl
of-reviews _ drops = absurd (cc)

-- a review that is dropped asks for a list less
pub less-asked : (G : Graph) (c : Change) (asked : Repair) → IsAsked G c asked → drops_review c ≡ true → is_less asked ≡ true
less-asked G c (More of) is drops = absurd (let no : false ≡ true = sym (ap drops_review is) ∙ drops in cc)
less-asked G c (Less of) is drops = refl
less-asked G c (Within of) is drops = absurd (let yes = of-reviews c drops in let no = is.1 in cc)

-- and takes or makes no prohibition
pub drops-none : (c : Change) → drops_review c ≡ true → is_of_prohibition c ≡ false
drops-none (DropReview n) drops = refl
drops-none _ drops = absurd (cc)
