-- How many numbers below one pass a test: before and after one more passes it, and by the bits of words.
use Rattle.std.proofs.Common.{◌≡◌, ℕ, zero, suc, ◌+◌, ◌-◌, ◌*◌, ◌/◌, ◌%◌, ◌^◌, ◌<◌, ◌≤◌, ◌==◌, ◌||◌, ◌&&◌, not, Bool, true, false, if◌then◌else◌, List, length, get_or, bit_and, count_ones, refl, sym, ap, ◌∙◌, arith, inl, inr}
use Rattle.std.specs.Int.{bit_at}
use Rattle.std.specs.Int.Count.{ones-ones}
use Rattle.std.proofs.lemmas.Bool.{cases_lt, cases_eq, eq-eqb, ne_eqb}
use Rattle.std.proofs.lemmas.Nat.{and_mask, one_shl, mod-pow-add, ones_cat, pow_pos}
use Rattle.std.proofs.lemmas.Nat.Bits.{bit_at-lt}
use Rattle.std.proofs.Math.Nat.{mod-lt}
use Rattle.pm_assoc.specs.Holders.{in_set, count_below}
use Rattle.pm_assoc.proofs.SetBits.{word_at, past_set}

pub count-same : (p q : ℕ → Bool) (m : ℕ) → ((n : ℕ) → n < m → p n ≡ q n) → count_below p m ≡ count_below q m
count-same p q zero h = refl
count-same p q (suc m) h = rw (h m (omega arith), count-same p q m (λ n l. h n (omega (arith, l)))) refl

pub count-le : (p : ℕ → Bool) (m : ℕ) → count_below p m ≤ m
count-le p zero = omega arith
count-le p (suc m) = of (p m) (count-le p m) where
  of : (b : Bool) → count_below p m ≤ m → (if b then suc (count_below p m) else count_below p m) ≤ suc m
  of true h = omega (arith, h)
  of false h = omega (arith, h)

-- past the last that passes there are no more
pub count-past : (p : ℕ → Bool) (b m : ℕ) → ((n : ℕ) → b ≤ n → p n ≡ false) → b ≤ m → count_below p m ≡ count_below p b
count-past p b zero none least = let none_yet : zero ≡ b = omega (arith, least) in ap (count_below p) none_yet
count-past p b (suc m) none least = elim (cases_lt m b) [
  | inl below ↦ let at : suc m ≡ b = omega (arith, least, below) in ap (count_below p) at
  | inr past ↦ rw (none m past) (count-past p b m none past)
]

lifted : (b : Bool) (c : ℕ) → (if b then suc (suc c) else suc c) ≡ suc (if b then suc c else c)
lifted true c = refl
lifted false c = refl

-- one number more
module _ (p q : ℕ → Bool) (n : ℕ) (made : (m : ℕ) → q m ≡ (m == n || p m)) where
  pub count-ahead : (m : ℕ) → m ≤ n → count_below q m ≡ count_below p m
  count-ahead m least = count-same q p m (λ k l. made k ∙ rw (ne_eqb k n (λ e. omega (arith, e, l, least))) refl)

  pub count-behind : p n ≡ false → (m : ℕ) → n < m → count_below q m ≡ suc (count_below p m)
  count-behind new zero below = absurd (omega (arith, below))
  count-behind new (suc m) below = elim (cases_eq m n) [
    | inl e ↦
        let none : p m ≡ false = ap p e ∙ new in
        rw (made m, eq-eqb m n e, none, count-ahead m (omega (arith, e))) refl
    | inr d ↦ rw (made m, ne_eqb m n d, count-behind new m (omega (arith, below, d))) (lifted (p m) (count_below p m))
  ]

-- a number taken away was one more before
pub taken : (p q : ℕ → Bool) (n : ℕ) → p n ≡ true → ((m : ℕ) → q m ≡ (p m && not (m == n))) → (m : ℕ) → p m ≡ (m == n || q m)
taken p q n had made m = elim (cases_eq m n) [
  | inl e ↦ rw (eq-eqb m n e) (ap p e ∙ had)
  | inr d ↦ rw (made m, ne_eqb m n d) (stays (p m))
] where
  stays : (b : Bool) → b ≡ (b && true)
  stays true = refl
  stays false = refl

pub gone : (p q : ℕ → Bool) (n : ℕ) → ((m : ℕ) → q m ≡ (p m && not (m == n))) → q n ≡ false
gone p q n made = made n ∙ rw (eq-eqb n n refl) (out (p n)) where
  out : (b : Bool) → (b && false) ≡ false
  out true = refl
  out false = refl

-- ---- by the bits of words

one_digit : (b : ℕ) → b < 2 → count_ones b ≡ b
one_digit zero below = ones-ones 0
one_digit (suc zero) below = ones-ones 1
one_digit (suc (suc b)) below = absurd (omega (arith, below))

-- one bit more
ones-more : (w i : ℕ) → count_ones (w % 2 ^ suc i) ≡ bit_at w i + count_ones (w % 2 ^ i)
ones-more w i =
    let next : suc i ≡ 1 + i = omega arith in
    rw (next, mod-pow-add w 1 i, ones_cat i (w / 2 ^ i % 2 ^ 1) (w % 2 ^ i) (mod-lt w (pow_pos i)))
    (ap (λ x. x + count_ones (w % 2 ^ i)) (one_digit (bit_at w i) (bit_at-lt w i)))

counted : (b c d : ℕ) (t : Bool) → b < 2 → t ≡ (b == 1) → (if t then suc (c + d) else c + d) ≡ c + (b + d)
counted zero c d true small is = cc
counted zero c d false small is = omega arith
counted (suc zero) c d true small is = omega arith
counted (suc zero) c d false small is = cc
counted (suc (suc b)) c d t small is = absurd (omega (arith, small))

-- those before a word, and in it below bit i
in_word : (words : List ℕ) (k i : ℕ) → i ≤ 64 →
    count_below (in_set words) (64 * k + i) ≡ count_below (in_set words) (64 * k) + count_ones (get_or words k 0 % 2 ^ i)
in_word words k zero few =
    let first : 64 * k + zero ≡ 64 * k = omega arith in
    let none : count_ones (get_or words k 0 % 2 ^ zero) ≡ 0 =
    let empty : get_or words k 0 % 1 ≡ 0 = omega arith in ap count_ones empty ∙ one_digit 0 (omega arith) in
    rw (first, none) (omega arith)
in_word words k (suc i) few =
    let next : 64 * k + suc i ≡ suc (64 * k + i) = omega arith in
    let bit = sym (word_at words k i (omega (arith, few))) in
    ap (count_below (in_set words)) next
    ∙ rw (in_word words k i (omega (arith, few)), ones-more (get_or words k 0) i)
    (counted (bit_at (get_or words k 0) i) (count_below (in_set words) (64 * k)) (count_ones (get_or words k 0 % 2 ^ i)) (in_set words (64 * k + i)) (bit_at-lt (get_or words k 0) i) bit)

pub by_word : (words : List ℕ) (n : ℕ) →
    count_below (in_set words) n ≡ count_below (in_set words) (64 * (n / 64)) + count_ones (get_or words (n / 64) 0 % 2 ^ (n % 64))
by_word words n =
    let parts : n ≡ 64 * (n / 64) + n % 64 = omega arith in
    ap (count_below (in_set words)) parts ∙ in_word words (n / 64) (n % 64) (omega arith)

-- past the words
pub by_all : (words : List ℕ) (n : ℕ) → length words ≤ n / 64 → count_below (in_set words) n ≡ count_below (in_set words) (64 * length words)
by_all words n past =
    count-past (in_set words) (64 * length words) n (λ m l. past_set words m (omega (arith, l))) (omega (arith, past))

-- the mask of the bits below one
pub below_mask : (w n : ℕ) → bit_and w (1 * 2 ^ (n % 64) % 2 ^ 64 - 1) ≡ w % 2 ^ (n % 64)
below_mask w n = rw (one_shl (n % 64) 64 (mod-lt n (omega arith))) (and_mask w (n % 64))
