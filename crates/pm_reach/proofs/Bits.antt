-- Rows of bits.
use Rattle.std.proofs.Common.{◌≡◌, ℕ, zero, suc, ◌+◌, ◌/◌, ◌%◌, ◌^◌, ◌<◌, ◌≤◌, Bool, true, false, List, [], ◌∷◌, ◌++◌, length, get_or, bit_or, max, refl, sym, ap, ◌∙◌, arith, ◌||◌, ◌==◌, ◌*◌, ◌≢◌, set, take, w64, eqb, replicate, inl, inr}
use Rattle.std.specs.Int.{bit_at}
use Rattle.std.specs.Int.Bits.{or_zero_r}
use Rattle.std.specs.List.{list_any}
use Rattle.std.proofs.lemmas.Nat.Bits.{bit_at_or, bit_at_set_same, bit_at_set_other, bit_at-zero}
use Rattle.std.proofs.lemmas.Bool.{cases_lt, cases_eq, eq-eqb, false_from_ne_true, eqb-true, true≢false}
use Rattle.std.proofs.lemmas.Bool.Decides.{eqb_tells}
use Rattle.std.proofs.lemmas.List.{get_or_past, get_or-set_same, get_or-set_other, get_or-replicate, length-replicate, get_or-take, length-take-le}
use Rattle.std.proofs.lemmas.List.Folds.{list_any_more}
use Rattle.std.proofs.Math.Nat.{mod-lt, div-add-mod}
use Rattle.std.proofs.Math.Seq.{take-append_seam}
use Rattle.pm_reach.specs.Words.{in_row}

max_or : (m n : ℕ) → m < 2 → n < 2 → (max m n == 1) ≡ (m == 1 || n == 1)
max_or zero zero h k = refl
max_or zero (suc zero) h k = refl
max_or (suc zero) zero h k = refl
max_or (suc zero) (suc zero) h k = refl
max_or (suc (suc m)) n h k = absurd (omega arith)
max_or zero (suc (suc n)) h k = absurd (omega arith)
max_or (suc zero) (suc (suc n)) h k = absurd (omega arith)

bit_small : (n i : ℕ) → bit_at n i < 2
bit_small n i = mod-lt (n / 2 ^ i) (omega arith)

-- rows whose words are the same have the same
pub same_words : (xs ys : List ℕ) → ((k : ℕ) → get_or xs k 0 ≡ get_or ys k 0) → (y : ℕ) → in_row xs y ≡ in_row ys y
same_words xs ys h y = rw (h (y / 64)) refl

-- past the last word there is nothing
pub past_row : (words : List ℕ) (y : ℕ) → length words ≤ y / 64 → in_row words y ≡ false
past_row words y h = rw (get_or_past words (y / 64) 0 h, bit_at-zero (y % 64)) refl

-- what the row has is within its words
pub within_row : (words : List ℕ) (y : ℕ) → in_row words y ≡ true → y < 64 * length words
within_row words y h = elim (cases_lt (y / 64) (length words)) [
  | inl l ↦ omega arith
  | inr l ↦ absurd (true≢false (sym h ∙ past_row words y l))
]

pub joined_words : (into from new : List ℕ) (n : ℕ) → length from ≤ n →
    ((k : ℕ) → k < n → get_or new k 0 ≡ bit_or (get_or into k 0) (get_or from k 0)) → ((k : ℕ) → n ≤ k → get_or new k 0 ≡ get_or into k 0) →
    (y : ℕ) → in_row new y ≡ (in_row into y || in_row from y)
joined_words into from new n b h r y =
    rw (all (y / 64), bit_at_or) (max_or _ _ (bit_small (get_or into (y / 64) 0) (y % 64)) (bit_small (get_or from (y / 64) 0) (y % 64))) where
      all : (k : ℕ) → get_or new k 0 ≡ bit_or (get_or into k 0) (get_or from k 0)
      all k = elim (cases_lt k n) [
        | inl l ↦ h k l
        | inr l ↦ r k l ∙ rw (get_or_past from k 0 (omega arith)) (sym (or_zero_r (get_or into k 0)))
      ]

-- where joining changes no word, the other row has nothing new
pub all_there : (words other : List ℕ) → ((k : ℕ) → k < length other → bit_or (get_or words k 0) (get_or other k 0) ≡ get_or words k 0) →
    (q : ℕ) → in_row other q ≡ true → in_row words q ≡ true
all_there words other same q h =
    let m = bit_at (get_or words (q / 64) 0) (q % 64) in
    let n = bit_at (get_or other (q / 64) 0) (q % 64) in
    sym (ap (λ w. bit_at w (q % 64) == 1) (same (q / 64) (omega (arith, within_row other q h))))
    ∙ rw bit_at_or (max_or m n (bit_small (get_or words (q / 64) 0) (q % 64)) (bit_small (get_or other (q / 64) 0) (q % 64)) ∙ or_right (m == 1) (n == 1) h) where
      or_right : (a b : Bool) → b ≡ true → (a || b) ≡ true
      or_right true b h = refl
      or_right false b h = h

-- tests of two numbers
pub ne-eqb : (a b : ℕ) → a ≢ b → eqb a b ≡ false
ne-eqb a b h = false_from_ne_true (eqb a b) (λ t. h (eqb-true a b t))

pub eqb-turned : (a b : ℕ) → (a == b) ≡ (b == a)
eqb-turned a b = elim (eqb_tells a b) [
  | inl e ↦ rw (e.1) refl
  | inr n ↦ rw (n.0) (sym (ne-eqb b a (λ e. n.1 (sym e))))
]

pub same_number : (q y : ℕ) → q / 64 ≡ y / 64 → q % 64 ≡ y % 64 → q ≡ y
same_number q y d m = sym (div-add-mod q 64) ∙ rw (d, m) (div-add-mod y 64)

-- one bit set
pub bit_set : (words : List ℕ) (y : ℕ) → y / 64 < length words → (q : ℕ) →
    in_row (set words (y / 64) (bit_or (get_or words (y / 64) 0) (1 * 2 ^ (y % 64) % 2 ^ 64))) q ≡ (q == y || in_row words q)
bit_set words y fits q = elim (cases_eq (q / 64) (y / 64)) [
  | inl d ↦ elim (cases_eq (q % 64) (y % 64)) [
    | inl m ↦ rw (d, m, get_or-set_same words (y / 64) (bit_or (get_or words (y / 64) 0) (1 * 2 ^ (y % 64) % 2 ^ 64)) 0 fits, bit_at_set_same w64 (get_or words (y / 64) 0) (y % 64) (mod-lt y (omega arith)), eq-eqb q y (same_number q y d m)) refl
    | inr m ↦ rw (ne-eqb q y (λ e. m (ap (λ n. n % 64) e)), d, get_or-set_same words (y / 64) (bit_or (get_or words (y / 64) 0) (1 * 2 ^ (y % 64) % 2 ^ 64)) 0 fits, bit_at_set_other w64 (get_or words (y / 64) 0) (y % 64) (mod-lt y (omega arith)) (q % 64) m) refl
  ]
  | inr d ↦ rw (ne-eqb q y (λ e. d (ap (λ n. n / 64) e)), get_or-set_other words (y / 64) (q / 64) (bit_or (get_or words (y / 64) 0) (1 * 2 ^ (y % 64) % 2 ^ 64)) 0 d) refl
]

-- no bit of zero words is set
pub bit_none : (n q : ℕ) → in_row (replicate n 0) q ≡ false
bit_none n q = elim (cases_lt (q / 64) n) [
  | inl l ↦ rw (get_or-replicate {A = ℕ} n (q / 64) 0 0 l, bit_at-zero (q % 64)) refl
  | inr l ↦ rw (get_or_past (replicate {A = ℕ} n 0) (q / 64) 0 (simp length-replicate l), bit_at-zero (q % 64)) refl
]

-- one number more
pub put_more : (words new numbers : List ℕ) (i : ℕ) → i < length numbers →
    ((q : ℕ) → in_row words q ≡ list_any (λ n. n == q) (take i numbers)) →
    ((q : ℕ) → in_row new q ≡ (q == get_or numbers i 0 || in_row words q)) →
    (q : ℕ) → in_row new q ≡ list_any (λ n. n == q) (take (i + 1) numbers)
put_more words new numbers i below h made q =
    made q ∙ rw (h q, list_any_more (λ n. n == q) numbers i 0 below) (turned q (get_or numbers i 0) (list_any (λ n. n == q) (take i numbers))) where
      both : (a b : Bool) → (a || b) ≡ (b || a)
      both true true = refl
      both true false = refl
      both false true = refl
      both false false = refl

      swapped : (a b : ℕ) → (a == b) ≡ (b == a)
      swapped a b = elim (eqb_tells a b) [
        | inl e ↦ rw (e.1) refl
        | inr n ↦ rw (n.0) (sym (ne-eqb b a (λ e. n.1 (sym e))))
      ]

      turned : (q n : ℕ) (c : Bool) → (q == n || c) ≡ (c || n == q)
      turned q n c = rw (eqb-turned q n) (both (n == q) c)

-- words of zeros at the end add nothing
pub zero_more : (words : List ℕ) (y : ℕ) → in_row (words ++ 0 ∷ []) y ≡ in_row words y
zero_more words y = same_words (words ++ 0 ∷ []) words (go words) y where
  go : (xs : List ℕ) (k : ℕ) → get_or (xs ++ 0 ∷ []) k 0 ≡ get_or xs k 0
  go [] zero = refl
  go [] (suc k) = refl
  go (x ∷ xs) zero = refl
  go (x ∷ xs) (suc k) = go xs k

-- and can be let go
pub zero_less : (words : List ℕ) (n : ℕ) → ((k : ℕ) → n ≤ k → get_or words k 0 ≡ 0) → (y : ℕ) → in_row (take n words) y ≡ in_row words y
zero_less words n h y = same_words (take n words) words (λ k. elim (cases_lt k n) [
  | inl l ↦ get_or-take n words k 0 l
  | inr l ↦ past words n k l ∙ sym (h k l)
]) y where
  past : (xs : List ℕ) (n k : ℕ) → n ≤ k → get_or (take n xs) k 0 ≡ 0
  past [] zero k l = refl
  past [] (suc n) k l = refl
  past (x ∷ xs) zero k l = refl
  past (x ∷ xs) (suc n) zero l = absurd (omega arith)
  past (x ∷ xs) (suc n) (suc k) l = past xs n k (omega arith)

-- words that were written where they stand are all that there is
pub all_written : (n : ℕ) (new rest : List ℕ) → n ≡ length new → take n (new ++ rest) ≡ new
all_written n new rest e = rw e (take-append_seam new rest)

-- words behind all that the row has add nothing
pub words_within : (words : List ℕ) (m n : ℕ) → n ≤ length words → ((k : ℕ) → k < m → k < length words → k < n) →
    ((y : ℕ) → in_row words y ≡ true → y < 64 * m) → (y : ℕ) → in_row (take n words) y ≡ in_row words y
words_within words m n short long within y = elim (cases_lt (y / 64) n) [
  | inl l ↦ rw (get_or-take n words (y / 64) 0 l) refl
  | inr l ↦ past_row (take n words) y (omega (arith, l, length-take-le n words short)) ∙ sym (none (in_row words y) refl l)
] where
  none : (b : Bool) → in_row words y ≡ b → n ≤ y / 64 → b ≡ false
  none false e l = refl
  none true e l =
      let below : y / 64 < n = long (y / 64) (omega (arith, within y e)) (omega (arith, within_row words y e)) in
      absurd (omega arith)
