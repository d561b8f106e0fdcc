-- The kept reviews, where one comes or goes, where an element comes, and where their last changes are told: one lemma for
-- each change of the list.
use Rattle.std.proofs.Common.{◌≡◌, ◌≤◌, ◌<◌, ◌+◌, ◌==◌, ℕ, List, [], ◌∷◌, length, map, Option, Some, None, option_map, Ok, Bool, true, false, not, nat_lt, refl, sym, ◌∙◌, ap, subst, arith, filter, Contains, ◌⊎◌, inl, inr, eq-eqb}
use Rattle.std.specs.List.{list_any}
use Rattle.std.proofs.lemmas.List.{length-map}
use Rattle.std.proofs.lemmas.Bool.{cond_both, leb-false, le-ltb, lt-ltb, eqb-true, eqb-false, or_parts, false_from_ne_true, not-true, not_from_false, ne_eqb}
use Rattle.pm_model.specs.State.{Graph, element_at}
use Rattle.pm_model.specs.KeptReviews.{KeptReview, is_same, is_kept_as, is_kept_of, kept_at, max_reviews, subject, unkept, unkept_from, new_review, with_review, without_review}
use Rattle.pm_model.specs.LastChanges.{changes_in, with_last, settled_review, with_changes}
use Rattle.pm_model.specs.Effect.{placed, may_keep, checks, refusal, changed, effect}
use Rattle.pm_model.specs.Resolve.{unused}
use Rattle.pm_model.specs.Formed.{Each, IsLive, RiseBelow, AreElements, AreOnceKept, IsKeptReview, AreKept, IsWellFormed}
use Rattle.pm_model.specs.declared.elements.Element.{Element}
use Rattle.pm_model.specs.declared.requests.Change.TheVariants.{Keep, DropReview}
use Rattle.pm_model.specs.declared.reviews.Changed.{Changed}
use Rattle.pm_model.specs.declared.reviews.ReviewOf.{ReviewOf}
use Rattle.pm_model.specs.declared.reviews.ReviewOf.TheVariants.{Caps, Entries}
use Rattle.pm_laws.proofs.Items.{contains-first, contains-rest, contains-cases, contains-none, each-at, each-from, each-filter, filter-split, filter-contains, find-found, find-filter, length-filter, none-at, none-from}
use Rattle.pm_laws.proofs.Checks.{passed, unless-ok}
use Rattle.pm_laws.proofs.Numbers.{live-placed}
use Rattle.pm_laws.proofs.Procs.{rise-filter, rise-at, rise-found}

abbrev pub number : KeptReview → ℕ
number k = k.number

-- ---- what they are of

pub same-is : (a b : ReviewOf ℕ) → is_same a b ≡ true → a ≡ b
same-is (Caps u) (Caps v) h = ap (λ (n : ℕ). Caps n) (eqb-true u v h)
same-is (Entries d) (Entries e) h = ap (λ (n : ℕ). Entries n) (eqb-true d e h)
same-is (Caps u) (Entries e) h = absurd (cc)
same-is (Entries d) (Caps v) h = absurd (cc)

pub is-same : (a : ReviewOf ℕ) → is_same a a ≡ true
is-same (Caps u) = eq-eqb u u refl
is-same (Entries e) = eq-eqb e e refl

same-swapped : (a b : ReviewOf ℕ) → is_same a b ≡ false → is_same b a ≡ false
same-swapped a b h = false_from_ne_true (is_same b a) (λ is.
    let same : b ≡ a = same-is b a is in
    let yes : is_same a b ≡ true = rw same (is-same a) in cc)

-- ---- the number that is taken

unkept_from-least : (n : ℕ) (ks : List KeptReview) → n ≤ unkept_from n ks
unkept_from-least n [] = omega arith
unkept_from-least n (k ∷ ks) = let rest = unkept_from-least (n + 1) ks in
    cond_both (k.number == n) (unkept_from (n + 1) ks) n (λ u. n ≤ u) (λ is. omega (arith, rest)) (λ is. omega arith)

unkept_from-below : (n : ℕ) (ks : List KeptReview) → unkept_from n ks ≤ n + length ks
unkept_from-below n [] = omega arith
unkept_from-below n (k ∷ ks) = let rest = unkept_from-below (n + 1) ks in
    cond_both (k.number == n) (unkept_from (n + 1) ks) n (λ u. u ≤ n + length (k ∷ ks)) (λ is. omega (arith, rest)) (λ is. omega arith)

-- below the limit, where there is room
pub unkept-below : (ks : List KeptReview) → length ks < max_reviews → unkept ks < max_reviews
unkept-below ks room = let below : unkept ks ≤ 0 + length ks = unkept_from-below 0 ks in omega (arith, below, room)

-- no kept review has it
unkept_from-apart : (n : ℕ) (ks : List KeptReview) (high : ℕ) (k : KeptReview) → RiseBelow n (map number ks) high → Contains ks k →
    k.number ≡ unkept_from n ks → ⊥
unkept_from-apart n [] high k h c = λ u. contains-none k c
unkept_from-apart n (a ∷ ks) high k h c = cond_both (a.number == n) (unkept_from (n + 1) ks) n (λ u. k.number ≡ u → ⊥)
    (λ is u.
    let same : a.number ≡ n = eqb-true a.number n is in
    let least = unkept_from-least (n + 1) ks in
    elim (contains-cases a k ks c) [
      | inl first ↦ let at : a.number ≡ k.number = rw first refl in omega (arith, at, same, u, least)
      | inr below ↦ unkept_from-apart (n + 1) ks high k (subst (λ m. RiseBelow (m + 1) (map number ks) high) same h.1) below u
    ])
    (λ is u.
    let other : a.number ≡ n → ⊥ = eqb-false a.number n is in
    elim (contains-cases a k ks c) [
      | inl first ↦ other (rw first u)
      | inr below ↦ let later = (rise-at number (a.number + 1) ks high k h.1 below).0 in omega (arith, later, u, h.0)
    ])

-- ---- one more, at its place

module _ (x : KeptReview) where
  -- before the first one, or after it
  review-split : (P : List KeptReview → Type 0) (k : KeptReview) (ks : List KeptReview) → P (x ∷ k ∷ ks) → P (k ∷ with_review x ks) →
      P (with_review x (k ∷ ks))
  review-split P k ks before after = cond_both (nat_lt x.number k.number) (x ∷ k ∷ ks) (k ∷ with_review x ks) P (λ is. before) (λ is. after)

  review-cases : (ks : List KeptReview) (a : KeptReview) → Contains (with_review x ks) a → (x ≡ a) ⊎ Contains ks a
  review-cases [] a = contains-cases x a []
  review-cases (k ∷ ks) a = review-split (λ l. Contains l a → (x ≡ a) ⊎ Contains (k ∷ ks) a) k ks
      (contains-cases x a (k ∷ ks))
      (λ c. elim (contains-cases k a (with_review x ks) c) [
        | inl same ↦ inr (rw same (contains-first a ks))
        | inr below ↦ elim (review-cases ks a below) [ inl new ↦ inl new | inr old ↦ inr (contains-rest k a ks old) ]
      ])

  review-new : (ks : List KeptReview) → Contains (with_review x ks) x
  review-new [] = contains-first x []
  review-new (k ∷ ks) = review-split (λ l. Contains l x) k ks
      (contains-first x (k ∷ ks)) (contains-rest k x (with_review x ks) (review-new ks))

  -- what has another number is found as before
  review-other : (ks : List KeptReview) (n : ℕ) → (x.number ≡ n → ⊥) → kept_at (with_review x ks) n ≡ kept_at ks n
  review-other [] n apart = rw (ne_eqb x.number n apart) refl
  review-other (k ∷ ks) n apart = review-split (λ l. kept_at l n ≡ kept_at (k ∷ ks) n) k ks
      (rw (ne_eqb x.number n apart) refl) (rw (review-other ks n apart) refl)

  length-review : (ks : List KeptReview) → length (with_review x ks) ≡ length ks + 1
  length-review [] = omega arith
  length-review (k ∷ ks) = let rest = length-review ks in
      review-split (λ l. length l ≡ length (k ∷ ks) + 1) k ks (omega arith) (omega (arith, rest))

  rise-review : (low : ℕ) (ks : List KeptReview) (high : ℕ) → RiseBelow low (map number ks) high → x.number < high →
      x.number ≡ unkept_from low ks → RiseBelow low (map number (with_review x ks)) high
  rise-review low [] high h below = λ u. (omega (arith, u), omega (arith, below))
  rise-review low (k ∷ ks) high h below =
      cond_both (k.number == low) (unkept_from (low + 1) ks) low
      (λ u. x.number ≡ u → RiseBelow low (map number (with_review x (k ∷ ks))) high)
      (λ is u.
      let same : k.number ≡ low = eqb-true k.number low is in
      let least = unkept_from-least (low + 1) ks in
      let after : nat_lt x.number k.number ≡ false = le-ltb x.number k.number (omega (arith, u, least, same)) in
      rw after (h.0, rise-review (k.number + 1) ks high h.1 below (rw same u)))
      (λ is u.
      let other : k.number ≡ low → ⊥ = eqb-false k.number low is in
      let less : x.number < k.number = omega (arith, other, h.0, u) in
      rw (lt-ltb x.number k.number less) (omega (arith, u), (omega (arith, less), h.1)))

  once-review : (ks : List KeptReview) → AreOnceKept ks → list_any (is_kept_of x.of) ks ≡ false → AreOnceKept (with_review x ks)
  once-review [] h free = (refl, tt)
  once-review (k ∷ ks) h free = review-split AreOnceKept k ks (free, h) (others, once-review ks h.1 apart.1) where
    apart : (is_kept_of x.of k ≡ false) × (list_any (is_kept_of x.of) ks ≡ false)
    apart = or_parts (is_kept_of x.of k) (list_any (is_kept_of x.of) ks) free

    others : list_any (is_kept_of k.of) (with_review x ks) ≡ false
    others = none-from (is_kept_of k.of) (with_review x ks) (λ a c. elim (review-cases ks a c) [
      | inl new ↦ rw (← new) (same-swapped x.of k.of apart.0)
      | inr old ↦ none-at (is_kept_of k.of) ks a h.0 old
    ])

once-filter : (test : KeptReview → Bool) (ks : List KeptReview) → AreOnceKept ks → AreOnceKept (filter test ks)
once-filter test [] h = tt
once-filter test (k ∷ ks) h = let rest = once-filter test ks h.1 in
    filter-split test AreOnceKept k ks (λ is. (others, rest)) (λ is. rest) where
      others : list_any (is_kept_of k.of) (filter test ks) ≡ false
      others = none-from (is_kept_of k.of) (filter test ks) (λ a c. none-at (is_kept_of k.of) ks a h.0 (filter-contains test ks a c).0)

module _ (es : List Element) where
  -- one that is kept from now on
  pub kept-more : (ks : List KeptReview) (of : ReviewOf ℕ) → AreKept es ks → IsLive es (subject of) → may_keep es of ≡ true →
      list_any (is_kept_of of) ks ≡ false → length ks < max_reviews → AreKept es (with_review (new_review (unkept ks) of) ks)
  kept-more ks of h live may free room = let x = new_review (unkept ks) of in let l = length-review x ks in record {
    numbered = rise-review x 0 ks max_reviews h.numbered (unkept-below ks room) refl;
    once = once-review x ks h.once free;
    each = each-from (IsKeptReview es) (with_review x ks) (λ k c. elim (review-cases x ks k c) [
      | inl new ↦ subst (IsKeptReview es) new (record { live = live; kinds = may })
      | inr old ↦ each-at (IsKeptReview es) ks k h.each old
    ]);
    few = omega (arith, l, room);
  }

  -- one that is dropped
  pub kept-less : (ks : List KeptReview) (n : ℕ) → AreKept es ks → AreKept es (without_review n ks)
  kept-less ks n h = let l = length-filter (λ k. not (is_kept_as n k)) ks in record {
    numbered = rise-filter number (λ k. not (is_kept_as n k)) 0 ks max_reviews h.numbered;
    once = once-filter (λ k. not (is_kept_as n k)) ks h.once;
    each = each-filter (IsKeptReview es) (λ k. not (is_kept_as n k)) ks h.each;
    few = omega (arith, l, h.few);
  }

  pub kept-none : AreKept es []
  kept-none = record { numbered = omega arith; once = tt; each = tt; few = omega arith }

-- ---- an element comes or goes

-- what keeps each of them
pub kept-to : (es fs : List Element) (ks : List KeptReview) → ((k : KeptReview) → Contains ks k → IsKeptReview es k → IsKeptReview fs k) →
    AreKept es ks → AreKept fs ks
kept-to es fs ks stays h = record {
  numbered = h.numbered;
  once = h.once;
  each = each-from (IsKeptReview fs) ks (λ k c. stays k c (each-at (IsKeptReview es) ks k h.each c));
  few = h.few;
}

-- what is found as before may be kept as before
pub may_keep-stays : (es fs : List Element) (of : ReviewOf ℕ) → element_at fs (subject of) ≡ element_at es (subject of) →
    may_keep es of ≡ true → may_keep fs of ≡ true
may_keep-stays es fs (Caps u) same h = rw same h
may_keep-stays es fs (Entries e) same h = refl

-- an element more
pub kept-placed : (es : List Element) (x : Element) (ks : List KeptReview) → AreElements es → x.number ≡ unused es → AreKept es ks →
    AreKept (placed x es) ks
kept-placed es x ks e u = kept-to es (placed x es) ks (λ k c is.
    let same = live-placed x es (subject k.of) e.rising u is.live in
    record { live = rw same is.live; kinds = may_keep-stays es (placed x es) k.of same is.kinds })

-- ---- what is found by a number

-- a kept review is the one that is found by its number
pub kept-found : (es : List Element) (ks : List KeptReview) (k : KeptReview) → AreKept es ks → Contains ks k → kept_at ks k.number ≡ Some k
kept-found es ks k h c = rise-found number 0 ks max_reviews k h.numbered c

pub kept-is : (ks : List KeptReview) (n : ℕ) (k : KeptReview) → kept_at ks n ≡ Some k → Contains ks k × (k.number ≡ n)
kept-is ks n k h = let p = find-found (is_kept_as n) ks k h in (p.0, eqb-true k.number n p.1)

-- what it is of is live
pub kept-live : (es : List Element) (ks : List KeptReview) (n : ℕ) (k : KeptReview) → AreKept es ks → kept_at ks n ≡ Some k →
    IsLive es (subject k.of)
kept-live es ks n k h at = (each-at (IsKeptReview es) ks k h.each (kept-is ks n k at).0).live

-- the new one is found by the number that it takes, which no other had
module _ (es : List Element) (ks : List KeptReview) (of : ReviewOf ℕ) (h : AreKept es ks) where
  abbrev newest : KeptReview
  newest = new_review (unkept ks) of

  pub unkept-apart : (n : ℕ) (k : KeptReview) → kept_at ks n ≡ Some k → unkept ks ≡ n → ⊥
  unkept-apart n k at same = let p = kept-is ks n k at in unkept_from-apart 0 ks max_reviews k h.numbered p.0 (p.1 ∙ sym same)

  pub unkept-free : kept_at ks (unkept ks) ≡ None
  unkept-free = by (kept_at ks (unkept ks)) refl where
    by : (o : Option KeptReview) → kept_at ks (unkept ks) ≡ o → kept_at ks (unkept ks) ≡ None
    by None is = is
    by (Some k) is = absurd (unkept-apart (unkept ks) k is refl)

  pub unkept-found : length ks < max_reviews → kept_at (with_review newest ks) (unkept ks) ≡ Some newest
  unkept-found room =
      rise-found number 0 (with_review newest ks) max_reviews newest
      (rise-review newest 0 ks max_reviews h.numbered (unkept-below ks room) refl) (review-new newest ks)

  pub others-found : (n : ℕ) (k : KeptReview) → kept_at ks n ≡ Some k → kept_at (with_review newest ks) n ≡ Some k
  others-found n k at = review-other newest ks n (unkept-apart n k at) ∙ at

  -- one that stands there has stood before, or is the new one
  pub more-found : (n : ℕ) (k : KeptReview) → kept_at (with_review newest ks) n ≡ Some k → (newest ≡ k) ⊎ Contains ks k
  more-found n k at = review-cases newest ks k (kept-is (with_review newest ks) n k at).0

-- a number that is dropped finds none, and each other what it found
pub dropped-none : (n : ℕ) (ks : List KeptReview) → kept_at (without_review n ks) n ≡ None
dropped-none n ks = by (kept_at (without_review n ks) n) refl where
  by : (o : Option KeptReview) → kept_at (without_review n ks) n ≡ o → kept_at (without_review n ks) n ≡ None
  by None is = is
  by (Some k) is =
      let p = kept-is (without_review n ks) n k is in
      let q : not (is_kept_as n k) ≡ true = (filter-contains (λ k. not (is_kept_as n k)) ks k p.0).1 in
      absurd (eqb-false k.number n (not-true (k.number == n) q) p.1)

pub dropped-other : (m n : ℕ) (ks : List KeptReview) (k : KeptReview) → (n ≡ m → ⊥) → kept_at ks n ≡ Some k →
    kept_at (without_review m ks) n ≡ Some k
dropped-other m n ks k apart at =
    let number : k.number ≡ n = (kept-is ks n k at).1 in
    find-filter (is_kept_as n) (λ k. not (is_kept_as m k)) ks k at (not_from_false (k.number == m) (ne_eqb k.number m (λ same. apart (sym number ∙ same))))

-- each number is below the limit
pub kept-below : (es : List Element) (ks : List KeptReview) (k : KeptReview) → AreKept es ks → Contains ks k → k.number < max_reviews
kept-below es ks k h c = (rise-at number 0 ks max_reviews k h.numbered c).1

-- ---- their last changes

-- the number is the same, and what it is of
abbrev pub IsSame : KeptReview → KeptReview → Type 0
IsSame k j = (j.number ≡ k.number) × (j.of ≡ k.of)

last-same : (version : ℕ) (list : List Changed) (k : KeptReview) → IsSame k (with_last version list k)
last-same version [] k = (refl, refl)
last-same version (c ∷ cs) k = (refl, refl)

module _ (G H : Graph) (version : ℕ) where
  pub settled-same : (k : KeptReview) → IsSame k (settled_review G H version k)
  settled-same k = by (kept_at G.kept k.number) refl where
    by : (o : Option KeptReview) → kept_at G.kept k.number ≡ o → IsSame k (settled_review G H version k)
    by None is = rw is (refl, refl)
    by (Some before) is = rw is
        (cond_both (is_same before.of k.of) (with_last version (changes_in G H k.of) k) k (IsSame k)
        (λ of. last-same version (changes_in G H k.of) k) (λ of. (refl, refl)))

-- what keeps both of each keeps them all
module _ (f : KeptReview → KeptReview) (same : (k : KeptReview) → IsSame k (f k)) where
  rise-map : (low : ℕ) (ks : List KeptReview) (high : ℕ) → RiseBelow low (map number ks) high → RiseBelow low (map number (map f ks)) high
  rise-map low [] high h = h
  rise-map low (k ∷ ks) high h = rw ((same k).0) (h.0, rise-map (k.number + 1) ks high h.1)

  none-map : (of : ReviewOf ℕ) (ks : List KeptReview) → list_any (is_kept_of of) ks ≡ false → list_any (is_kept_of of) (map f ks) ≡ false
  none-map of [] h = refl
  none-map of (k ∷ ks) h = let p = or_parts (is_kept_of of k) (list_any (is_kept_of of) ks) h in
      rw ((same k).1, p.0, none-map of ks p.1) refl

  once-map : (ks : List KeptReview) → AreOnceKept ks → AreOnceKept (map f ks)
  once-map [] h = tt
  once-map (k ∷ ks) h = rw ((same k).1) (none-map k.of ks h.0, once-map ks h.1)

  each-same : (es : List Element) (ks : List KeptReview) → Each (IsKeptReview es) ks → Each (IsKeptReview es) (map f ks)
  each-same es [] h = tt
  each-same es (k ∷ ks) h = (record { live = rw ((same k).1) h.0.live; kinds = rw ((same k).1) h.0.kinds }, each-same es ks h.1)

  pub kept-map : (es : List Element) (ks : List KeptReview) → AreKept es ks → AreKept es (map f ks)
  kept-map es ks h = record {
    numbered = rise-map 0 ks max_reviews h.numbered;
    once = once-map ks h.once;
    each = each-same es ks h.each;
    few = rw (length-map ks f) h.few;
  }

  -- and finds each by its number
  pub map-found : (ks : List KeptReview) (n : ℕ) → kept_at (map f ks) n ≡ option_map f (kept_at ks n)
  map-found [] n = refl
  map-found (k ∷ ks) n =
      cond_both (k.number == n) (Some k) (kept_at ks n) (λ o. kept_at (map f (k ∷ ks)) n ≡ option_map f o)
      (λ is. rw ((same k).0, is) refl) (λ is. rw ((same k).0, is) (map-found ks n))

-- so they stay as they are to be
pub kept-settled : (G H : Graph) (version : ℕ) (es : List Element) (ks : List KeptReview) → AreKept es ks →
    AreKept es (map (settled_review G H version) ks)
kept-settled G H version es ks h = kept-map (settled_review G H version) (settled-same G H version) es ks h

pub map-stays : (f : KeptReview → KeptReview) → ((k : KeptReview) → f k ≡ k) → (ks : List KeptReview) → map f ks ≡ ks
map-stays f stays [] = refl
map-stays f stays (k ∷ ks) = rw (stays k, map-stays f stays ks) refl

-- where none was kept, none changes
module _ (G H : Graph) (version : ℕ) (none : G.kept ≡ []) where
  new-stays : (k : KeptReview) → settled_review G H version k ≡ k
  new-stays k = rw none refl

  pub with_changes_none : with_changes G version H ≡ H
  with_changes_none = ap (λ (ks : List KeptReview). record H { kept = ks }) (map-stays (settled_review G H version) new-stays H.kept)

-- ---- of a well formed graph

pub review_found : (G : Graph) (k : KeptReview) → IsWellFormed G → Contains G.kept k → kept_at G.kept k.number ≡ Some k
review_found G k f c = kept-found G.elements G.kept k f.kept c

pub review_stands : (G : Graph) (n : ℕ) (k : KeptReview) → IsWellFormed G → kept_at G.kept n ≡ Some k →
    (k.number ≡ n) × (n < 256) × IsLive G.elements (subject k.of)
review_stands G n k f at =
    let p = kept-is G.kept n k at in
    let below = kept-below G.elements G.kept k f.kept p.0 in
    let same = p.1 in (same, omega (arith, below, same), kept-live G.elements G.kept n k f.kept at)

pub review_kept : (G H : Graph) (of : ReviewOf ℕ) → IsWellFormed G → effect G (Keep of) ≡ Ok H →
    (unkept G.kept < 256) × (kept_at G.kept (unkept G.kept) ≡ None) × (kept_at H.kept (unkept G.kept) ≡ Some (new_review (unkept G.kept) of))
review_kept G H of f is =
    let made = unless-ok (refusal G (Keep of)) (changed G (Keep of)) H is in
    let room = leb-false _ _ (passed (checks G (Keep of)) made.0).1.1.0 in (
      unkept-below G.kept room,
      unkept-free G.elements G.kept of f.kept,
      subst (λ (K : Graph). kept_at K.kept (unkept G.kept) ≡ Some (new_review (unkept G.kept) of)) made.1
          (unkept-found G.elements G.kept of f.kept room),
    )

pub review_dropped : (G H : Graph) (n : ℕ) → effect G (DropReview n) ≡ Ok H → kept_at H.kept n ≡ None
review_dropped G H n is =
    let made = unless-ok (refusal G (DropReview n)) (changed G (DropReview n)) H is in
    subst (λ (K : Graph). kept_at K.kept n ≡ None) made.1 (dropped-none n G.kept)
