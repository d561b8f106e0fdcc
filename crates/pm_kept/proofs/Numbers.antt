-- Numbers rise below the limit, whatever is kept and dropped.
use Rattle.std.proofs.Common.{◌≡◌, ◌≢◌, ℕ, zero, suc, ◌+◌, ◌-◌, ◌<◌, ◌≤◌, ◌==◌, nat_lt, List, [], ◌∷◌, length, map, filter, insert, get_or, slice_get, slice_set, not, Bool, true, false, nat_le, None, Some, refl, sym, ◌∙◌, ap, arith}
use Rattle.pm_model.specs.declared.reviews.Changed.{Changed}
use Rattle.std.specs.List.{list_any}
use Rattle.std.proofs.lemmas.Bool.{leb-false, lt-ltb, le-ltb, eqb-true, eqb-false}
use Rattle.pm_model.specs.Formed.{RiseBelow}
use Rattle.pm_model.specs.KeptReviews.{KeptReview, is_kept_as, is_kept_of, keep_checks, new_review, unkept_from, with_review, without_review}
use Rattle.pm_model.specs.Results.{first_of}
use Rattle.pm_model.specs.declared.replies.Refusal.TheVariants.{Already, Full}
use Rattle.pm_model.specs.declared.replies.Table.TheVariants as table
use Rattle.pm_model.specs.declared.reviews.ReviewOf.{ReviewOf}

abbrev pub numbers : List KeptReview → List ℕ
numbers ks = map (λ (k : KeptReview). k.number) ks

-- ---- the least number that none has

pub unkept-least : (n : ℕ) (ks : List KeptReview) → n ≤ unkept_from n ks
unkept-least n [] = omega arith
unkept-least n (k ∷ ks) = either (unkept-least (n + 1) ks) (k.number == n) refl where
  either : n + 1 ≤ unkept_from (n + 1) ks → (b : Bool) → (k.number == n) ≡ b → n ≤ unkept_from n (k ∷ ks)
  either rest true is = rw is (omega (arith, rest))
  either rest false is = rw is (omega arith)

-- the review of that number comes to stand at the place of the number
with_review-placed : (n i : ℕ) (x : KeptReview) (ks : List KeptReview) → RiseBelow n (numbers ks) 256 → x.number ≡ unkept_from n ks →
    n + i ≡ x.number → with_review x ks ≡ insert ks i x
with_review-placed n i x [] h is at = let e : i ≡ 0 = omega (arith, is, at) in rw e refl
with_review-placed n i x (k ∷ ks) h is at = either (with_review-placed (n + 1) (i - 1) x ks) (k.number == n) refl is where
  either : (RiseBelow (n + 1) (numbers ks) 256 → x.number ≡ unkept_from (n + 1) ks → n + 1 + (i - 1) ≡ x.number → with_review x ks ≡ insert ks (i - 1) x) →
      (b : Bool) → (k.number == n) ≡ b → x.number ≡ unkept_from n (k ∷ ks) → with_review x (k ∷ ks) ≡ insert (k ∷ ks) i x
  either rest true same is' =
      let here : k.number ≡ n = eqb-true k.number n same in
      let there : x.number ≡ unkept_from (n + 1) ks = rw same at is' in
      let above : n + 1 ≤ x.number = omega (arith, there, unkept-least (n + 1) ks) in
      let not_before : nat_lt x.number k.number ≡ false = le-ltb x.number k.number (omega (arith, here, above)) in
      let place : i ≡ suc (i - 1) = omega (arith, above, at) in
      rw (not_before, place) (ap (λ xs. k ∷ xs) (rest (rw here at h.1) there (omega (arith, above, at)) ∙ ap (λ j. insert ks j x) (omega (arith, place))))
  either rest false other is' =
      let here : x.number ≡ n = rw other at is' in
      let apart : k.number ≢ n = eqb-false k.number n other in
      let before : nat_lt x.number k.number ≡ true = lt-ltb x.number k.number (omega (arith, here, h.0)) in
      let place : i ≡ 0 = omega (arith, here, at) in
      rw (before, place) refl

rising-with_review : (n high : ℕ) (x : KeptReview) (ks : List KeptReview) → RiseBelow n (numbers ks) high → x.number ≡ unkept_from n ks →
    n + length ks < high → RiseBelow n (numbers (with_review x ks)) high
rising-with_review n high x [] h is room = (omega (arith, is), omega (arith, is, room))
rising-with_review n high x (k ∷ ks) h is room = either (rising-with_review (n + 1) high x ks) (k.number == n) refl is where
  either : (RiseBelow (n + 1) (numbers ks) high → x.number ≡ unkept_from (n + 1) ks → n + 1 + length ks < high → RiseBelow (n + 1) (numbers (with_review x ks)) high) →
      (b : Bool) → (k.number == n) ≡ b → x.number ≡ unkept_from n (k ∷ ks) → RiseBelow n (numbers (with_review x (k ∷ ks))) high
  either rest true same is' =
      let here : k.number ≡ n = eqb-true k.number n same in
      let there : x.number ≡ unkept_from (n + 1) ks = rw same at is' in
      let not_before : nat_lt x.number k.number ≡ false = le-ltb x.number k.number (omega (arith, here, there, unkept-least (n + 1) ks)) in
      rw not_before (h.0, rw here (rest (rw here at h.1) there (omega (arith, room))))
  either rest false other is' =
      let here : x.number ≡ n = rw other at is' in
      let apart : k.number ≢ n = eqb-false k.number n other in
      let above : n < k.number = omega (arith, h.0) in
      let before : nat_lt x.number k.number ≡ true = lt-ltb x.number k.number (omega (arith, here, above)) in
      rw before (omega (arith, here), (omega (arith, here, above), h.1))

-- ---- as the table has them

RiseBelow-lower : (low least high : ℕ) (ns : List ℕ) → RiseBelow least ns high → low ≤ least → RiseBelow low ns high
RiseBelow-lower low least high [] h lower = omega (arith, h, lower)
RiseBelow-lower low least high (n ∷ ns) h lower = (omega (arith, h.0, lower), h.1)

pub rising-filtered : (low high : ℕ) (p : KeptReview → Bool) (ks : List KeptReview) → RiseBelow low (numbers ks) high →
    RiseBelow low (numbers (filter p ks)) high
rising-filtered low high p [] h = h
rising-filtered low high p (k ∷ ks) h = either (rising-filtered (k.number + 1) high p ks h.1) (p k) refl where
  either : RiseBelow (k.number + 1) (numbers (filter p ks)) high → (b : Bool) → p k ≡ b → RiseBelow low (numbers (filter p (k ∷ ks))) high
  either rest true is = rw is (h.0, rest)
  either rest false is = rw is (RiseBelow-lower low (k.number + 1) high (numbers (filter p ks)) rest (omega (arith, h.0)))

-- ---- the last change of one

index-here : (ks : List KeptReview) (i : ℕ) (k d : KeptReview) → slice_get ks i ≡ Some k → get_or ks i d ≡ k
index-here [] i k d here = cc
index-here (y ∷ ys) zero k d here = cc
index-here (y ∷ ys) (suc i) k d here = index-here ys i k d here

module _ (ks : List KeptReview) (i at : ℕ) (changed : List Changed) (d x : KeptReview) (stands : d ≡ get_or ks i d)
    (is : x ≡ record d { at = at; changed = changed }) where
  pub set-item : (k : KeptReview) → slice_get ks i ≡ Some k → slice_set ks i x ≡ slice_set ks i (record k { at = at; changed = changed })
  set-item k here =
      let e : d ≡ k = stands ∙ index-here ks i k d here in
      ap (slice_set ks i) (is ∙ ap (λ (y : KeptReview). record y { at = at; changed = changed }) e)

numbers-set : (ks : List KeptReview) (i : ℕ) (d x : KeptReview) → d ≡ get_or ks i d → x.number ≡ d.number → i < length ks →
    numbers (slice_set ks i x) ≡ numbers ks
numbers-set [] i d x stands same within = refl
numbers-set (y ∷ ys) zero d x stands same within = ap (λ n. n ∷ numbers ys) (same ∙ ap (λ (k : KeptReview). k.number) stands)
numbers-set (y ∷ ys) (suc i) d x stands same within = ap (λ ns. y.number ∷ ns) (numbers-set ys i d x stands same (omega (arith, within)))

pub set-numbers : (ks : List KeptReview) (i at : ℕ) (changed : List Changed) (d x : KeptReview) → i < length ks → d ≡ get_or ks i d →
    x ≡ record d { at = at; changed = changed } → numbers (slice_set ks i x) ≡ numbers ks
set-numbers ks i at changed d x within stands is = numbers-set ks i d x stands (ap (λ (k : KeptReview). k.number) is) within

module _ (ks : List KeptReview) (h : RiseBelow 0 (numbers ks) 256) where
  pub keep-placed : (x : KeptReview) → x.number ≡ unkept_from 0 ks → insert ks x.number x ≡ with_review x ks
  keep-placed x is = sym (with_review-placed 0 x.number x ks h is (omega arith))

  pub keep-rises : (x : KeptReview) → x.number ≡ unkept_from 0 ks → length ks < 256 → RiseBelow 0 (numbers (with_review x ks)) 256
  keep-rises x is room = rising-with_review 0 256 x ks h is (omega (arith, room))

  pub drop-rises : (n : ℕ) → RiseBelow 0 (numbers (without_review n ks)) 256
  drop-rises n = rising-filtered 0 256 (λ k. not (is_kept_as n k)) ks h

  module _ (n : ℕ) (of : ReviewOf ℕ) (x : KeptReview) (new : List KeptReview) (number : n ≡ unkept_from 0 ks) (made : x ≡ new_review n of)
      (put : new ≡ insert ks n x) where
    pub keep-put : new ≡ with_review (new_review (unkept_from 0 ks) of) ks
    keep-put = put ∙ rw (made, number) (keep-placed (new_review (unkept_from 0 ks) of) refl)

    pub keep-put_rises : length ks < 256 → RiseBelow 0 (numbers new) 256
    keep-put_rises room = rw keep-put (keep-rises (new_review (unkept_from 0 ks) of) refl room)

pub keep-room : (ks : List KeptReview) (of : ReviewOf ℕ) → first_of (keep_checks ks of) ≡ None → length ks < 256
keep-room ks of fits = by (list_any (is_kept_of of) ks) (nat_le 256 (length ks)) refl fits where
  by : (a b : Bool) → nat_le 256 (length ks) ≡ b → first_of ((a, Already) ∷ (b, Full table.Reviews) ∷ []) ≡ None → length ks < 256
  by true b is none = cc
  by false true is none = cc
  by false false is none = omega (arith, leb-false 256 (length ks) is)
