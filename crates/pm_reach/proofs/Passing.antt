-- One number more of a pass.
use Rattle.std.proofs.Common.{◌≡◌, ◌≢◌, ℕ, zero, suc, ◌+◌, ◌-◌, add-one, ◌<◌, ◌≤◌, Bool, true, false, List, Option, Some, None, is_some, refl, sym, ap, ◌∙◌, arith, inl, inr}
use Rattle.std.proofs.lemmas.Bool.{cases_eq, cases_lt, true≢false, false≢true}
use Rattle.pm_reach.specs.Rows.{place_at, row_has, has, below, count_of, most}
use Rattle.pm_reach.specs.Table.{Table, IsReady, Writes}
use Rattle.pm_reach.specs.Passes.{Rewrites, Passed, Spans}

below-has : (o : Option (List ℕ)) (q : ℕ) → row_has o q ≡ true → is_some o ≡ true
below-has None q h = absurd (false≢true h)
below-has (Some row) q h = refl

-- what is contained in something has a row
pub has_below : (rows : List (List (Option (List ℕ)))) (p q : ℕ) → below rows p q ≡ true → has rows p ≡ true
has_below rows p q h = below-has (place_at rows p) q h

-- ---- counts

pub count-yes : (test : ℕ → Bool) (n : ℕ) → test n ≡ true → count_of test (n + 1) ≡ count_of test n + 1
unfolding count_of
count-yes test n h = rw (add-one n, h) (omega arith)

count-no : (test : ℕ → Bool) (n : ℕ) → test n ≡ false → count_of test (n + 1) ≡ count_of test n
unfolding count_of
count-no test n h = rw (add-one n, h) (omega arith)

-- where none below n passes
pub count-none : (test : ℕ → Bool) (n : ℕ) → ((k : ℕ) → k < n → test k ≡ false) → count_of test n ≡ 0
unfolding count_of
count-none test zero h = refl
count-none test (suc n) h = rw (h n (omega arith)) (omega (arith, count-none test n (λ k l. h k (omega arith))))

-- where none of the numbers from n on passes, a higher bound makes no difference
count-past : (test : ℕ → Bool) (n m : ℕ) → ((k : ℕ) → n ≤ k → k < m + n → test k ≡ false) → count_of test (m + n) ≡ count_of test n
unfolding count_of
count-past test n zero h = ap (count_of test) (omega arith)
count-past test n (suc m) h =
    let next : suc m + n ≡ suc (m + n) = omega arith in
    rw (next, h (m + n) (omega arith) (omega arith)) (omega (arith, count-past test n m (λ k l s. h k l (omega arith))))

pub count-all : (test : ℕ → Bool) (n m : ℕ) → n ≤ m → ((k : ℕ) → n ≤ k → k < m → test k ≡ false) → count_of test m ≡ count_of test n
count-all test n m l h =
    let e : m ≡ (m - n) + n = omega arith in
    rw e (count-past test n (m - n) (λ k f s. h k f (omega arith)))

-- where two tests agree
pub count_same : (test other : ℕ → Bool) (n : ℕ) → ((k : ℕ) → test k ≡ other k) → count_of test n ≡ count_of other n
unfolding count_of
count_same test other zero h = refl
count_same test other (suc n) h = rw (h n, count_same test other n h) refl

-- ---- passes

pub Passed-none : {x n low high : ℕ} {made : ℕ → ℕ → Bool} {old : Table} → Spans old.rows x low high →
    ((p : ℕ) → below old.rows p x ≡ true → IsReady old p n) → Passed x n made old old low 0
Passed-none {x} {low = low} {old = old} spans ready = record {
  within = λ p l h q. let from : low ≤ p = spans.from p h in absurd (omega arith);
  others = λ p h. refl;
  rest = λ p l. refl;
  live = λ p. refl;
  ready = λ p l h. ready p h;
  count = sym (count-none (λ p. below old.rows p x) low before);
} where
  before : (p : ℕ) → p < low → below old.rows p x ≡ false
  before p l = go (below old.rows p x) refl where
    go : (b : Bool) → below old.rows p x ≡ b → b ≡ false
    go false e = refl
    go true e = let from : low ≤ p = spans.from p e in absurd (omega arith)

pub same_below : {o o' : Option (List ℕ)} → o ≡ o' → (q : ℕ) → row_has o q ≡ row_has o' q
same_below e q = ap (λ o. row_has o q) e

pub Passed-yes : {x n : ℕ} {made : ℕ → ℕ → Bool} {old now new : Table} {z written : ℕ} → Passed x n made old now z written →
    below old.rows z x ≡ true → Writes z now new → ((q : ℕ) → below new.rows z q ≡ made z q) → Passed x n made old new (z + 1) (written + 1)
Passed-yes {x} {n} {made} {old} {now} {new} {z} {written} a was w row = record {
  within = λ p l h q. elim (cases_eq p z) [
    | inl e ↦ rw e (row q)
    | inr ne ↦ same_below (w.others p ne) q ∙ a.within p (omega arith) h q
  ];
  others = λ p h. elim (cases_eq p z) [
    | inl e ↦ absurd (true≢false (sym was ∙ rw e at h))
    | inr ne ↦ w.others p ne ∙ a.others p h
  ];
  rest = λ p l. let ne : p ≢ z = omega arith in w.others p ne ∙ a.rest p (omega arith);
  live = λ p. w.has p ∙ a.live p;
  ready = λ p l h. let ne : p ≢ z = omega arith in w.ready p n ne (a.ready p (omega arith) h);
  count = rw a.count (sym (count-yes (λ p. below old.rows p x) z was));
}

-- the numbers from z to `next` are passed by
pub Passed-by : {x n : ℕ} {made : ℕ → ℕ → Bool} {old now : Table} {z written : ℕ} (next : ℕ) → Passed x n made old now z written → z ≤ next →
    ((p : ℕ) → z ≤ p → p < next → below old.rows p x ≡ false) → Passed x n made old now next written
Passed-by {x} {n} {made} {old} {now} {z} {written} next a more none = record {
  within = λ p l h q. elim (cases_lt p z) [
    | inl s ↦ a.within p s h q
    | inr s ↦ absurd (false≢true (sym (none p s l) ∙ h))
  ];
  others = a.others;
  rest = λ p l. a.rest p (omega arith);
  live = a.live;
  ready = λ p l h. a.ready p (omega arith) h;
  count = a.count ∙ sym (count-all (λ p. below old.rows p x) z next more none);
}

pub Passed-all : {x n : ℕ} {made : ℕ → ℕ → Bool} {old now : Table} {z written : ℕ} → Passed x n made old now z written →
    ((p : ℕ) → below old.rows p x ≡ true → p < z) → z ≤ most → Rewrites x made old.rows now.rows written
Passed-all {x} {n} {made} {old} {now} {z} {written} a short few = record {
  within = λ p h q. a.within p (short p h) h q;
  others = a.others;
  live = a.live;
  count = a.count ∙ sym (count-all (λ p. below old.rows p x) z most few (λ p l s. past p l));
} where
  past : (p : ℕ) → z ≤ p → below old.rows p x ≡ false
  past p l = go (below old.rows p x) refl where
    go : (b : Bool) → below old.rows p x ≡ b → b ≡ false
    go false e = refl
    go true e = let s : p < z = short p e in absurd (omega arith)
