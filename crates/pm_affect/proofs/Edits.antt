-- Lists changed one after another, each at its place.
use Rattle.std.proofs.Common.{◌≡◌, ℕ, zero, suc, ◌+◌, ◌≤◌, ◌<◌, ◌==◌, ◌||◌, nat_lt, Bool, true, false, List, [], ◌∷◌, length, map, filter, insert, get_or, set, slice_get, slice_set, Some, None, not, refl, sym, ap, ◌∙◌, subst, arith, eq-eqb, ne_eqb, Result, Ok, Err, OnOk, OnErr, if◌then◌else◌}
use Rattle.std.proofs.lemmas.Bool.{cond_both, eqb-true, eqb-false, ltb-true, ltb-false, or_parts}
use Rattle.pm_model.specs.Formed.{Each}
use Rattle.pm_model.specs.declared.reviews.Pair.{Pair}
use Rattle.pm_laws.proofs.Items.{each-filter}
use Rattle.pm_affect.specs.Lists.{AreListed, IsInOrder, Listed, Rise, is_among, is_of, listing, pairs_of_some, subjects, was_of_some, with_list, without_list}
use Rattle.pm_affect.specs.Puts.{edited, place}
use Rattle.pm_affect.proofs.Places.{rise-apart, rise-lower, rise-at}

-- what was at place n is changed, and put there again
pub edited-set : {X : Type 0} (f : X → X) (n : ℕ) (xs : List X) (x y : X) → n < length xs → x ≡ get_or xs n x → f x ≡ y →
    set xs n y ≡ edited f n xs
edited-set f n [] x y below is now = absurd (omega (arith, below))
edited-set f zero (z ∷ xs) x y below is now = ap (λ w. w ∷ xs) (sym now ∙ ap f is)
edited-set f (suc n) (z ∷ xs) x y below is now = ap (λ l. z ∷ l) (edited-set f n xs x y (omega (arith, below)) is now)

pub on_ok-to : {A E : Type 0} (r : Result A E) (P Q : Type 0) → (P → Q) → OnOk r P → OnOk r Q
on_ok-to (Ok a) P Q f h = f h
on_ok-to (Err e) P Q f h = tt

module _ {X : Type 0} (f : X → X) where
  -- the first n as they are, and the others changed
  abbrev pub mapped_from : ℕ → List X → List X
  mapped_from n [] = []
  mapped_from zero (x ∷ xs) = f x ∷ map f xs
  mapped_from (suc n) (x ∷ xs) = x ∷ mapped_from n xs

  pub mapped-all : (xs : List X) → mapped_from 0 xs ≡ map f xs
  mapped-all [] = refl
  mapped-all (x ∷ xs) = refl

  pub mapped-step : (n m : ℕ) (xs : List X) → m ≡ n + 1 → mapped_from m (edited f n xs) ≡ mapped_from n xs
  mapped-step n m [] next = refl
  mapped-step zero m (x ∷ xs) next = let one : m ≡ suc zero = omega (arith, next) in rw (one, mapped-all xs) refl
  mapped-step (suc n) m (x ∷ xs) next =
      let one : m ≡ suc (n + 1) = omega (arith, next) in rw one (ap (λ l. x ∷ l) (mapped-step n (n + 1) xs refl))

  pub mapped-end : (n : ℕ) (xs : List X) → length xs ≤ n → mapped_from n xs ≡ xs
  mapped-end n [] past = refl
  mapped-end zero (x ∷ xs) past = absurd (omega (arith, past))
  mapped-end (suc n) (x ∷ xs) past = ap (λ l. x ∷ l) (mapped-end n xs (omega (arith, past)))

  pub length-edited : (n : ℕ) (xs : List X) → length (edited f n xs) ≡ length xs
  length-edited n [] = refl
  length-edited zero (x ∷ xs) = refl
  length-edited (suc n) (x ∷ xs) = let rest = length-edited n xs in omega (arith, rest)

pub subject-at : (ks : List Listed) (i : ℕ) (k : Listed) → slice_get ks i ≡ Some k → slice_get (subjects ks) i ≡ Some k.subject
subject-at [] i k is = absurd (cc)
subject-at (l ∷ ks) zero k is = let same : l ≡ k = cc in rw same refl
subject-at (l ∷ ks) (suc i) k is = subject-at ks i k is

-- ---- a list at its place among rising numbers

pub among-place : (low s : ℕ) (ns : List ℕ) → Rise low ns → is_among ns s ≡ true → slice_get ns (place s ns) ≡ Some s
among-place low s [] h is = absurd (cc)
among-place low s (n ∷ ns) h is = go (λ rest. among-place (n + 1) s ns h.1 rest) (nat_lt n s) (n == s) refl refl where
  go : (is_among ns s ≡ true → slice_get ns (place s ns) ≡ Some s) → (a b : Bool) → nat_lt n s ≡ a → (n == s) ≡ b → slice_get (n ∷ ns) (place s (n ∷ ns)) ≡ Some s
  go rest true true lower here = absurd (let l = ltb-true n s lower in let e = eqb-true n s here in omega (arith, l, e))
  go rest true false lower other = rw lower (rest (rw other at is))
  go rest false true above here = rw above (ap Some (eqb-true n s here))
  go rest false false above other =
      let least = ltb-false n s above in
      let apart = eqb-false n s other in
      let none : is_among ns s ≡ false = rise-apart (n + 1) s ns h.1 (omega (arith, least, apart)) in
      absurd (let yes : is_among ns s ≡ true = rw other at is in cc)

pub place-among : (low s m : ℕ) (ns : List ℕ) → Rise low ns → slice_get ns (place s ns) ≡ Some m → (m == s) ≡ is_among ns s
place-among low s m [] h is = absurd (cc)
place-among low s m (n ∷ ns) h is = go (λ there. place-among (n + 1) s m ns h.1 there) (nat_lt n s) refl where
  go : (slice_get ns (place s ns) ≡ Some m → (m == s) ≡ is_among ns s) → (a : Bool) → nat_lt n s ≡ a → (m == s) ≡ is_among (n ∷ ns) s
  go rest true lower =
      let below = ltb-true n s lower in
      rw (ne_eqb n s (λ same. omega (arith, same, below))) (rest (rw lower at is))
  go rest false above =
      let same : n ≡ m = of (rw above at is) in
      let least = ltb-false n s above in
      let behind : is_among ns s ≡ false = rise-apart (n + 1) s ns h.1 (omega (arith, least)) in
      rw (behind, same) (sym (or_none (m == s))) where
        of : slice_get (n ∷ ns) 0 ≡ Some m → n ≡ m
        of is = cc

        or_none : (b : Bool) → (b || false) ≡ b
        or_none true = refl
        or_none false = refl

pub place-none : (low s : ℕ) (ns : List ℕ) → Rise low ns → length ns ≤ place s ns → is_among ns s ≡ false
place-none low s [] h past = refl
place-none low s (n ∷ ns) h past = go (λ rest. place-none (n + 1) s ns h.1 rest) (nat_lt n s) refl where
  go : (length ns ≤ place s ns → is_among ns s ≡ false) → (b : Bool) → nat_lt n s ≡ b → is_among (n ∷ ns) s ≡ false
  go further true lower =
      let below = ltb-true n s lower in
      let rest : suc (length ns) ≤ suc (place s ns) = rw lower at past in
      rw (ne_eqb n s (λ same. omega (arith, same, below))) (further (omega (arith, rest)))
  go further false above = let none : suc (length ns) ≤ 0 = rw above at past in absurd (omega (arith, none))

-- ---- one list is written to

module _ (s : ℕ) (f : Listed → Listed) where
  -- the list is changed, where it is of s
  abbrev pub changed_at : Listed → Listed
  changed_at k = if k.subject == s then f k else k

  pub edited-nowhere : (ks : List Listed) → is_among (subjects ks) s ≡ false → ks ≡ map changed_at ks
  edited-nowhere [] none = refl
  edited-nowhere (k ∷ ks) none =
      let q = or_parts (k.subject == s) (is_among (subjects ks) s) none in
      rw (q.0, ← edited-nowhere ks q.1) refl

  pub edited-there : (low i : ℕ) (ks : List Listed) → Rise low (subjects ks) → slice_get (subjects ks) i ≡ Some s →
      edited f i ks ≡ map changed_at ks
  edited-there low i [] h is = absurd (cc)
  edited-there low zero (k ∷ ks) h is =
      let same : k.subject ≡ s = cc in
      let none : is_among (subjects ks) s ≡ false = rise-apart (k.subject + 1) s (subjects ks) h.1 (omega (arith, same)) in
      rw (eq-eqb k.subject s same, ← edited-nowhere ks none) refl
  edited-there low (suc i) (k ∷ ks) h is =
      let above = rise-at (k.subject + 1) i s (subjects ks) h.1 is in
      rw (ne_eqb k.subject s (λ same. omega (arith, same, above)), edited-there (k.subject + 1) i ks h.1 is) refl

pub subjects-set : (ks : List Listed) (i : ℕ) (d x : Listed) → d ≡ get_or ks i d → x.subject ≡ d.subject → subjects (slice_set ks i x) ≡ subjects ks
subjects-set [] i d x stands same = refl
subjects-set (k ∷ ks) zero d x stands same = ap (λ n. n ∷ subjects ks) (same ∙ ap (λ (k : Listed). k.subject) stands)
subjects-set (k ∷ ks) (suc i) d x stands same = ap (λ ns. k.subject ∷ ns) (subjects-set ks i d x stands same)

each-set : {X : Type 0} (P : X → Type 0) (xs : List X) (i : ℕ) (x : X) → Each P xs → P x → Each P (slice_set xs i x)
each-set P [] i x h p = tt
each-set P (y ∷ xs) zero x h p = (p, h.1)
each-set P (y ∷ xs) (suc i) x h p = (h.0, each-set P xs i x h.1 p)

pub listed-set : (ks : List Listed) (i : ℕ) (d x : Listed) → AreListed ks → d ≡ get_or ks i d → x.subject ≡ d.subject → IsInOrder 0 x.pairs →
    AreListed (slice_set ks i x)
listed-set ks i d x h stands same order = record {
  rise = subst (Rise 0) (sym (subjects-set ks i d x stands same)) h.rise;
  order = each-set (λ (k : Listed). IsInOrder 0 k.pairs) ks i x h.order order;
}

-- ---- one is found

pub some-there : (low i : ℕ) (ks : List Listed) (k : Listed) → Rise low (subjects ks) → slice_get ks i ≡ Some k → pairs_of_some k.subject ks ≡ Some k.pairs
some-there low i [] k h is = absurd (cc)
some-there low zero (l ∷ ks) k h is = let same : l ≡ k = cc in rw (same, eq-eqb k.subject k.subject refl) refl
some-there low (suc i) (l ∷ ks) k h is =
    let above = rise-at (l.subject + 1) i k.subject (subjects ks) h.1 (subject-at ks i k is) in
    rw (ne_eqb l.subject k.subject (λ same. omega (arith, same, above))) (some-there (l.subject + 1) i ks k h.1 is)

pub was-there : (low i : ℕ) (ks : List Listed) (k : Listed) → Rise low (subjects ks) → slice_get ks i ≡ Some k → was_of_some k.subject ks ≡ k.was
was-there low i [] k h is = absurd (cc)
was-there low zero (l ∷ ks) k h is = let same : l ≡ k = cc in rw (same, eq-eqb k.subject k.subject refl) refl
was-there low (suc i) (l ∷ ks) k h is =
    let above = rise-at (l.subject + 1) i k.subject (subjects ks) h.1 (subject-at ks i k is) in
    rw (ne_eqb l.subject k.subject (λ same. omega (arith, same, above))) (was-there (l.subject + 1) i ks k h.1 is)

pub none-there : (s : ℕ) (ks : List Listed) → is_among (subjects ks) s ≡ false → None ≡ pairs_of_some s ks
none-there s [] none = refl
none-there s (k ∷ ks) none = let q = or_parts (k.subject == s) (is_among (subjects ks) s) none in rw q.0 (none-there s ks q.1)

pub there-none : (s : ℕ) (ks : List Listed) → pairs_of_some s ks ≡ None → is_among (subjects ks) s ≡ false
there-none s [] none = refl
there-none s (k ∷ ks) none = go (λ rest. there-none s ks rest) (k.subject == s) refl where
  go : (pairs_of_some s ks ≡ None → is_among (subjects ks) s ≡ false) → (b : Bool) → (k.subject == s) ≡ b → is_among (subjects (k ∷ ks)) s ≡ false
  go rest true is = absurd (let found : Some k.pairs ≡ None = rw is at none in cc)
  go rest false is = rw is (rest (rw is at none))

-- ---- one comes or goes

pub insert-placed : (x : Listed) (ks : List Listed) → insert ks (place x.subject (subjects ks)) x ≡ with_list x ks
insert-placed x [] = refl
insert-placed x (k ∷ ks) = go (nat_lt k.subject x.subject) refl (insert-placed x ks) where
  go : (b : Bool) → nat_lt k.subject x.subject ≡ b → insert ks (place x.subject (subjects ks)) x ≡ with_list x ks →
      insert (k ∷ ks) (place x.subject (subjects (k ∷ ks))) x ≡ with_list x (k ∷ ks)
  go true is rest = rw is (ap (λ l. k ∷ l) rest)
  go false is rest = rw is refl

rise-with : (x : Listed) (low : ℕ) (ks : List Listed) → low ≤ x.subject → Rise low (subjects ks) → is_among (subjects ks) x.subject ≡ false →
    Rise low (subjects (with_list x ks))
rise-with x low [] least h none = (least, tt)
rise-with x low (k ∷ ks) least h none =
    let q = or_parts (k.subject == x.subject) (is_among (subjects ks) x.subject) none in
    cond_both (nat_lt k.subject x.subject) (k ∷ with_list x ks) (x ∷ k ∷ ks) (λ l. Rise low (subjects l))
    (λ is. let below = ltb-true k.subject x.subject is in (h.0, rise-with x (k.subject + 1) ks (omega (arith, below)) h.1 q.1))
    (λ is.
    let above = ltb-false k.subject x.subject is in
    let apart = eqb-false k.subject x.subject q.0 in (least, (omega (arith, above, apart), h.1)))

pub each-with : (P : Listed → Type 0) (x : Listed) (ks : List Listed) → P x → Each P ks → Each P (with_list x ks)
each-with P x [] p h = (p, tt)
each-with P x (k ∷ ks) p h = cond_both (nat_lt k.subject x.subject) (k ∷ with_list x ks) (x ∷ k ∷ ks) (Each P)
    (λ is. (h.0, each-with P x ks p h.1)) (λ is. (p, h))

pub listed-with : (s : ℕ) (ps : List Pair) (ks : List Listed) → AreListed ks → IsInOrder 0 ps → pairs_of_some s ks ≡ None → AreListed (with_list (listing s ps) ks)
listed-with s ps ks h order none = record {
  rise = rise-with (listing s ps) 0 ks (omega arith) h.rise (there-none s ks none);
  order = each-with (λ (k : Listed). IsInOrder 0 k.pairs) (listing s ps) ks order h.order;
}

rise-filter : (test : Listed → Bool) (low : ℕ) (ks : List Listed) → Rise low (subjects ks) → Rise low (subjects (filter test ks))
rise-filter test low [] h = tt
rise-filter test low (k ∷ ks) h = let rest = rise-filter test (k.subject + 1) ks h.1 in
    cond_both (test k) (k ∷ filter test ks) (filter test ks) (λ l. Rise low (subjects l))
    (λ is. (h.0, rest)) (λ is. rise-lower (k.subject + 1) low (subjects (filter test ks)) (omega (arith, h.0)) rest)

pub listed-without : (s : ℕ) (ks : List Listed) → AreListed ks → AreListed (without_list s ks)
listed-without s ks h = record {
  rise = rise-filter (λ k. not (is_of s k)) 0 ks h.rise;
  order = each-filter (λ (k : Listed). IsInOrder 0 k.pairs) (λ k. not (is_of s k)) ks h.order;
}

-- at one place there is one number
pub subject-there : (ns : List ℕ) (i j : ℕ) {m n : ℕ} → i ≡ j → slice_get ns i ≡ Some m → slice_get ns j ≡ Some n → m ≡ n
subject-there ns i j same first second = of (rw same at first) second where
  of : {m n : ℕ} → slice_get ns j ≡ Some m → slice_get ns j ≡ Some n → m ≡ n
  of first second = cc

pub ok-or-err : {A E : Type 0} (r : Result A E) (P Q : Type 0) → OnOk r P → OnErr r Q → (R : Type 0) → (P → R) → (Q → R) → R
ok-or-err (Ok a) P Q p q R f g = f p
ok-or-err (Err e) P Q p q R f g = g q
