-- A word of a row, as 64 of its numbers.
use Rattle.std.proofs.Common.{◌≡◌, ℕ, ◌+◌, ◌-◌, ◌*◌, ◌/◌, ◌%◌, ◌^◌, ◌<◌, ◌≤◌, ◌==◌, true, false, List, length, get_or, bit_and, w64, shr-shr, div-le_self, lt_of_le_of_lt, refl, sym, ap, ◌∙◌, inl, inr, arith}
use Rattle.std.specs.Int.{bit_at, trailing_zeros}
use Rattle.std.specs.Int.Count.{trailing_of_zero}
use Rattle.std.proofs.lemmas.Bool.{cases_lt, false_from_ne_true, eqb-true}
use Rattle.std.proofs.lemmas.Nat.Bits.{bit_at-trailing_zeros, bit_at-zero, bit_at_and}
use Rattle.std.proofs.lemmas.List.{get_or_past}
use Rattle.pm_reach.specs.Words.{in_row}

pub word_at : (words : List ℕ) (k i : ℕ) → i < 64 → (bit_at (get_or words k 0) i == 1) ≡ in_row words (64 * k + i)
word_at words k i below =
    let page : (64 * k + i) / 64 ≡ k = omega arith in
    let place : (64 * k + i) % 64 ≡ i = omega arith in
    rw (page, place) refl

-- past the last word there is none
pub word_past : (words : List ℕ) (k i : ℕ) → length words ≤ k → i < 64 → (bit_at 0 i == 1) ≡ in_row words (64 * k + i)
word_past words k i past below = rw (← word_at words k i below, get_or_past words k 0 past) refl

-- ---- the word of z, from z on

module _ (words : List ℕ) (word z : ℕ) (told : (i : ℕ) → i < 64 → (bit_at word i == 1) ≡ in_row words (64 * (z / 64) + i)) (fits : word < 2 ^ 64) where
  abbrev rest : ℕ
  rest = word / 2 ^ (z % 64)

  left : (i : ℕ) → z % 64 + i < 64 → (bit_at rest i == 1) ≡ in_row words (z + i)
  left i short =
      let place : 64 * (z / 64) + (z % 64 + i) ≡ z + i = omega arith in
      ap (λ b. b == 1) (ap (λ n. n % 2) (shr-shr word (z % 64) i)) ∙ told (z % 64 + i) short ∙ ap (in_row words) place

  lowest : 0 < rest → (trailing_zeros w64 rest < 64) × (bit_at rest (trailing_zeros w64 rest) ≡ 1) × ((i : ℕ) → i < trailing_zeros w64 rest → bit_at rest i ≡ 0)
  lowest some =
      let less : rest ≤ word = div-le_self word (2 ^ (z % 64)) in
      bit_at-trailing_zeros w64 rest some (lt_of_le_of_lt less fits)

  -- below the lowest bit of it there is none
  pub none_before : (p : ℕ) → z ≤ p → p < z + trailing_zeros w64 rest → p < (z / 64 + 1) * 64 → in_row words p ≡ false
  none_before p from below short =
      let i : ℕ = p - z in
      let place : z + i ≡ p = omega arith in
      ap (in_row words) (sym place) ∙ sym (left i (omega arith)) ∙ ap (λ b. b == 1) (none i (omega arith)) where
        none : (i : ℕ) → i < trailing_zeros w64 rest → bit_at rest i ≡ 0
        none i l = elim (cases_lt 0 rest) [
          | inl some ↦ (lowest some).2 i l
          | inr empty ↦ let zero : rest ≡ 0 = omega arith in rw zero (bit_at-zero i)
        ]

  -- and it is there, if it is in the word
  pub lowest_there : z + trailing_zeros w64 rest < (z / 64 + 1) * 64 → in_row words (z + trailing_zeros w64 rest) ≡ true
  lowest_there short = elim (cases_lt 0 rest) [
    | inl some ↦ sym (left (trailing_zeros w64 rest) (omega arith)) ∙ ap (λ b. b == 1) (lowest some).1
    | inr empty ↦
        let zero : rest ≡ 0 = omega arith in
        let all : trailing_zeros w64 rest ≡ 64 = rw zero (trailing_of_zero 64) in
        absurd (omega arith)
  ]

-- ---- numbers in both rows

both_none : (a b i : ℕ) → bit_at (bit_and a b) i ≡ 0 → (bit_at a i == 1) ≡ true → (bit_at b i == 1) ≡ false
both_none a b i none h = false_from_ne_true (bit_at b i == 1) (λ k.
    let both : bit_at (bit_and a b) i ≡ 1 = bit_at_and a b i ∙ rw (eqb-true (bit_at a i) 1 h, eqb-true (bit_at b i) 1 k) refl in
    omega (arith, both, none))

-- where two words have no bit in common, no number of theirs is in both rows
pub words_apart : (words other : List ℕ) (q : ℕ) → bit_and (get_or words (q / 64) 0) (get_or other (q / 64) 0) ≡ 0 → in_row words q ≡ true → in_row other q ≡ false
words_apart words other q zero h =
    both_none (get_or words (q / 64) 0) (get_or other (q / 64) 0) (q % 64) (ap (λ n. bit_at n (q % 64)) zero ∙ bit_at-zero (q % 64)) h

-- where nothing is left behind a bit, no higher one is set
high_none : (n s i : ℕ) → n / 2 ^ s / 2 ≡ 0 → s < i → bit_at n i ≡ 0
high_none n s i zero above =
    let j : ℕ = i - (s + 1) in
    let place : i ≡ s + (1 + j) = omega arith in
    rw place
    (sym (ap (λ m. m % 2) (shr-shr n s (1 + j))) ∙ sym (ap (λ m. m % 2) (shr-shr (n / 2 ^ s) 1 j)) ∙ ap (λ m. m / 2 ^ j % 2) zero ∙ bit_at-zero j)

-- above z, in the word of z
pub above_apart : (words other : List ℕ) (v w z : ℕ) → ((i : ℕ) → i < 64 → (bit_at v i == 1) ≡ in_row words (64 * (z / 64) + i)) →
    ((i : ℕ) → i < 64 → (bit_at w i == 1) ≡ in_row other (64 * (z / 64) + i)) → bit_and v w / 2 ^ (z % 64) / 2 ≡ 0 →
    (q : ℕ) → q / 64 ≡ z / 64 → z < q → in_row words q ≡ true → in_row other q ≡ false
above_apart words other v w z told_v told_w zero q same above h =
    let place : 64 * (z / 64) + q % 64 ≡ q = omega (arith, same) in
    let short : q % 64 < 64 = omega arith in
    let none : bit_at (bit_and v w) (q % 64) ≡ 0 = high_none (bit_and v w) (z % 64) (q % 64) zero (omega (arith, same, above)) in
    ap (in_row other) (sym place) ∙ sym (told_w (q % 64) short) ∙ both_none v w (q % 64) none (told_v (q % 64) short ∙ ap (in_row words) place ∙ h)
