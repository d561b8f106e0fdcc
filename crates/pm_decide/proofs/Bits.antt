-- Bits of a word: its lowest, the word without one, and what two words share.
use Rattle.std.proofs.Common.{◌≡◌, ℕ, ◌*◌, ◌%◌, ◌^◌, ◌<◌, ◌==◌, ◌&&◌, ◌||◌, not, Bool, true, false, bit_and, bit_or, w64, refl, sym, ap, ◌∙◌, arith, inl, inr}
use Rattle.std.specs.Int.{bit_at, bit_not, trailing_zeros}
use Rattle.std.proofs.lemmas.Bool.{cases_eq, eq-eqb, ne_eqb, eqb-true}
use Rattle.std.proofs.lemmas.Nat.{and_le_l}
use Rattle.pm_decide.proofs.RightSets.{has-and}
use Rattle.std.proofs.lemmas.Nat.Bits.{bit_at_set_same, bit_at_set_other, bit_at_clear_same, bit_at_clear_other, bit_at-trailing_zeros, bit_at-zero}

-- in an empty word there is none
pub none-of : (word : ℕ) (held above : ℕ → Bool) → word ≡ 0 → ((i : ℕ) → i < 64 → (bit_at word i == 1) ≡ held i) →
    (i : ℕ) → i < 64 → (bit_at 0 i == 1) ≡ (held i && above i)
none-of word held above empty is i h =
    let out : false ≡ held i = rw (empty, bit_at-zero i) at (is i h) in rw (bit_at-zero i, ← out) refl

-- what two words share
pub both-of : (a b : ℕ) (held above : ℕ → Bool) → ((i : ℕ) → i < 64 → (bit_at a i == 1) ≡ held i) → ((i : ℕ) → i < 64 → (bit_at b i == 1) ≡ above i) →
    (i : ℕ) → i < 64 → (bit_at (bit_and a b) i == 1) ≡ (held i && above i)
both-of a b held above in_a in_b i h = has-and a b i ∙ rw (in_a i h, in_b i h) refl

pub lowest_bit : (n : ℕ) → 0 < n → n < 2 ^ 64 →
    (trailing_zeros w64 n < 64) × ((bit_at n (trailing_zeros w64 n) == 1) ≡ true) × ((j : ℕ) → j < trailing_zeros w64 n → (bit_at n j == 1) ≡ false)
lowest_bit n some fits =
    let l = bit_at-trailing_zeros w64 n some fits in
    (l.0, eq-eqb (bit_at n (trailing_zeros w64 n)) 1 (l.1), λ j h. rw (l.2 j h) refl)

pub more_bits : (n i : ℕ) → i < 64 → (j : ℕ) → j < 64 → (bit_at (bit_or n (1 * 2 ^ i % 2 ^ 64)) j == 1) ≡ (bit_at n j == 1 || j == i)
more_bits n i within j h = elim (cases_eq j i) [
  | inl e ↦ rw (e, bit_at_set_same w64 n i within, eq-eqb i i refl) (all (bit_at n i == 1))
  | inr d ↦ rw (bit_at_set_other w64 n i within j d, ne_eqb j i d) (same (bit_at n j == 1))
] where
  all : (b : Bool) → true ≡ (b || true)
  all true = refl
  all false = refl

  same : (b : Bool) → b ≡ (b || false)
  same true = refl
  same false = refl

pub cleared-bits : (n i : ℕ) → i < 64 → (j : ℕ) → j < 64 →
    (bit_at (bit_and n (bit_not w64 (1 * 2 ^ i % 2 ^ 64))) j == 1) ≡ (bit_at n j == 1 && not (j == i))
cleared-bits n i within j h = elim (cases_eq j i) [
  | inl e ↦ rw (e, bit_at_clear_same w64 n i within, eq-eqb i i refl) (none (bit_at n i == 1))
  | inr d ↦ rw (bit_at_clear_other w64 n i within j h d, ne_eqb j i d) (all (bit_at n j == 1))
] where
  none : (b : Bool) → false ≡ (b && false)
  none true = refl
  none false = refl

  all : (b : Bool) → b ≡ (b && true)
  all true = refl
  all false = refl

pub cleared-less : (n i : ℕ) → i < 64 → (bit_at n i == 1) ≡ true → bit_and n (bit_not w64 (1 * 2 ^ i % 2 ^ 64)) < n
cleared-less n i within set =
    let most = and_le_l n (bit_not w64 (1 * 2 ^ i % 2 ^ 64)) in
    elim (cases_eq (bit_and n (bit_not w64 (1 * 2 ^ i % 2 ^ 64))) n) [
      | inl e ↦
          let clear : bit_at n i ≡ 0 = ap (λ x. bit_at x i) (sym e) ∙ bit_at_clear_same w64 n i within in
          let one : bit_at n i ≡ 1 = eqb-true (bit_at n i) 1 set in absurd (omega arith)
      | inr d ↦ omega (arith, most, d)
    ]
