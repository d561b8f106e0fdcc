-- Sets of numbers in words of 64.
use Rattle.std.proofs.Common.{◌≡◌, ℕ, zero, suc, ◌+◌, ◌*◌, ◌/◌, ◌%◌, ◌^◌, ◌<◌, ◌≤◌, ◌==◌, ◌||◌, ◌&&◌, not, Bool, true, false, List, [], ◌∷◌, ◌++◌, length, get_or, set, bit_or, bit_and, w64, refl, sym, ap, ◌∙◌, arith, inl, inr}
use Rattle.std.specs.Int.{bit_at, bit_not}
use Rattle.std.proofs.lemmas.Bool.{cases_lt, cases_eq, eq-eqb, ne_eqb, true≢false}
use Rattle.std.proofs.lemmas.List.{get_or_past, get_or-set_same, get_or-set_other}
use Rattle.std.proofs.lemmas.Nat.Bits.{bit_at-zero, bit_at_set_same, bit_at_set_other, bit_at_clear_same, bit_at_clear_other}
use Rattle.std.proofs.Math.Nat.{mod-lt, div-add-mod}
use Rattle.pm_assoc.specs.Holders.{in_set}

-- past the last word there is nothing
pub past_set : (words : List ℕ) (n : ℕ) → length words ≤ n / 64 → in_set words n ≡ false
past_set words n h = rw (get_or_past words (n / 64) 0 h, bit_at-zero (n % 64)) refl

pub within_set : (words : List ℕ) (n : ℕ) → in_set words n ≡ true → n < 64 * length words
within_set words n h = elim (cases_lt (n / 64) (length words)) [
  | inl l ↦ omega arith
  | inr l ↦ absurd (true≢false (sym h ∙ past_set words n l))
]

same_number : (q n : ℕ) → q / 64 ≡ n / 64 → q % 64 ≡ n % 64 → q ≡ n
same_number q n d m = sym (div-add-mod q 64) ∙ rw (d, m) (div-add-mod n 64)

-- one bit set
pub bit_set : (words : List ℕ) (n : ℕ) → n / 64 < length words → (q : ℕ) →
    in_set (set words (n / 64) (bit_or (get_or words (n / 64) 0) (1 * 2 ^ (n % 64) % 2 ^ 64))) q ≡ (q == n || in_set words q)
bit_set words n fits q = elim (cases_eq (q / 64) (n / 64)) [
  | inl d ↦ elim (cases_eq (q % 64) (n % 64)) [
    | inl m ↦ rw (d, m, get_or-set_same words (n / 64) (bit_or (get_or words (n / 64) 0) (1 * 2 ^ (n % 64) % 2 ^ 64)) 0 fits, bit_at_set_same w64 (get_or words (n / 64) 0) (n % 64) (mod-lt n (omega arith)), eq-eqb q n (same_number q n d m)) refl
    | inr m ↦ rw (ne_eqb q n (λ e. m (ap (λ x. x % 64) e)), d, get_or-set_same words (n / 64) (bit_or (get_or words (n / 64) 0) (1 * 2 ^ (n % 64) % 2 ^ 64)) 0 fits, bit_at_set_other w64 (get_or words (n / 64) 0) (n % 64) (mod-lt n (omega arith)) (q % 64) m) refl
  ]
  | inr d ↦ rw (ne_eqb q n (λ e. d (ap (λ x. x / 64) e)), get_or-set_other words (n / 64) (q / 64) (bit_or (get_or words (n / 64) 0) (1 * 2 ^ (n % 64) % 2 ^ 64)) 0 d) refl
]

out : (b : Bool) → false ≡ (b && false)
out true = refl
out false = refl

stays : (b : Bool) → b ≡ (b && true)
stays true = refl
stays false = refl

-- one bit cleared
pub bit_clear : (words : List ℕ) (n : ℕ) → n / 64 < length words → (q : ℕ) →
    in_set (set words (n / 64) (bit_and (get_or words (n / 64) 0) (bit_not w64 (1 * 2 ^ (n % 64) % 2 ^ 64)))) q ≡ (in_set words q && not (q == n))
bit_clear words n fits q = elim (cases_eq (q / 64) (n / 64)) [
  | inl d ↦ elim (cases_eq (q % 64) (n % 64)) [
    | inl m ↦ rw (d, m, get_or-set_same words (n / 64) (bit_and (get_or words (n / 64) 0) (bit_not w64 (1 * 2 ^ (n % 64) % 2 ^ 64))) 0 fits, bit_at_clear_same w64 (get_or words (n / 64) 0) (n % 64) (mod-lt n (omega arith)), eq-eqb q n (same_number q n d m)) (out _)
    | inr m ↦ rw (ne_eqb q n (λ e. m (ap (λ x. x % 64) e)), d, get_or-set_same words (n / 64) (bit_and (get_or words (n / 64) 0) (bit_not w64 (1 * 2 ^ (n % 64) % 2 ^ 64))) 0 fits, bit_at_clear_other w64 (get_or words (n / 64) 0) (n % 64) (mod-lt n (omega arith)) (q % 64) (mod-lt q (omega arith)) m) (stays _)
  ]
  | inr d ↦ rw (ne_eqb q n (λ e. d (ap (λ x. x / 64) e)), get_or-set_other words (n / 64) (q / 64) (bit_and (get_or words (n / 64) 0) (bit_not w64 (1 * 2 ^ (n % 64) % 2 ^ 64))) 0 d) (stays _)
]

-- words of zeros at the end add nothing
pub no_more : (words : List ℕ) (n : ℕ) → in_set (words ++ 0 ∷ []) n ≡ in_set words n
no_more words n = rw (go words (n / 64)) refl where
  go : (xs : List ℕ) (k : ℕ) → get_or (xs ++ 0 ∷ []) k 0 ≡ get_or xs k 0
  go [] zero = refl
  go [] (suc k) = refl
  go (x ∷ xs) zero = refl
  go (x ∷ xs) (suc k) = go xs k

pub word_at : (words : List ℕ) (k i : ℕ) → i < 64 → (bit_at (get_or words k 0) i == 1) ≡ in_set words (64 * k + i)
word_at words k i below =
    let page : (64 * k + i) / 64 ≡ k = omega arith in
    let place : (64 * k + i) % 64 ≡ i = omega arith in
    rw (page, place) refl

pub word_past : (words : List ℕ) (k i : ℕ) → length words ≤ k → i < 64 → (bit_at 0 i == 1) ≡ in_set words (64 * k + i)
word_past words k i past below = rw (← word_at words k i below, get_or_past words k 0 past) refl
