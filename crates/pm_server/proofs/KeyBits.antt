-- Keys as bits of words.
use Rattle.std.proofs.Common.{◌≡◌, ◌≢◌, ◌+◌, ◌*◌, ◌/◌, ◌%◌, ◌^◌, ◌<◌, ◌≤◌, ◌↔◌, ℕ, List, length, refl, ◌∙◌, ap, sym, subst, arith, slice_index_or, slice_set, bit_and, bit_or, Some, w64}
use mathlib.Core.Logic.{inl, inr}
use Rattle.std.specs.Int.{bit_at, bit_not, trailing_zeros}
use Rattle.std.proofs.lemmas.Bool.{cases_eq, cases_order}
use Rattle.std.proofs.lemmas.List.{get_or-set_same, get_or-set_other}
use Rattle.std.proofs.lemmas.Nat.Bits.{bit_at_set_same, bit_at_set_other, bit_at_clear_same, bit_at_clear_other, bit_at-trailing_zeros}
use Rattle.pm_server.specs.KeySets.{HasKey, HasAdded, HasTaken}

-- a word is changed at one bit: it is as it is told to be at that key, and as before at each other
at-word : (ws : List ℕ) (p k : ℕ) (x : ℕ) → p < length ws → k / 64 ≡ p → bit_at (slice_index_or (slice_set ws p x) (k / 64) 0) (k % 64) ≡ bit_at x (k % 64)
at-word ws p k x within is = ap (λ n. bit_at n (k % 64)) (ap (λ m. slice_index_or (slice_set ws p x) m 0) is ∙ get_or-set_same ws p x 0 within)

other-word : (ws : List ℕ) (p k : ℕ) (x : ℕ) → k / 64 ≢ p → bit_at (slice_index_or (slice_set ws p x) (k / 64) 0) (k % 64) ≡ bit_at (slice_index_or ws (k / 64) 0) (k % 64)
other-word ws p k x not = ap (λ n. bit_at n (k % 64)) (get_or-set_other ws p (k / 64) x 0 not)

same-bit : (ws xs : List ℕ) (k : ℕ) → bit_at (slice_index_or xs (k / 64) 0) (k % 64) ≡ bit_at (slice_index_or ws (k / 64) 0) (k % 64) → HasKey (record { words = xs }) k ↔ HasKey (record { words = ws }) k
same-bit ws xs k is = ((λ h. sym is ∙ h), (λ h. is ∙ h))

-- where the bit of this key alone may change, the others stay
others-stay : (ws : List ℕ) (key : ℕ) (x : ℕ) → key / 64 < length ws → ((i : ℕ) → i < 64 → i ≢ key % 64 → bit_at x i ≡ bit_at (slice_index_or ws (key / 64) 0) i)
    → (k : ℕ) → k ≢ key → HasKey (record { words = slice_set ws (key / 64) x }) k ↔ HasKey (record { words = ws }) k
others-stay ws key x within keep k not = elim (cases_eq (k / 64) (key / 64)) [
  | inl same ↦
      let bit : k % 64 ≢ key % 64 = (λ r. not (omega (arith, same, r))) in
      same-bit ws (slice_set ws (key / 64) x) k
      (at-word ws (key / 64) k x within same ∙ keep (k % 64) (omega arith) bit ∙ ap (λ m. bit_at (slice_index_or ws m 0) (k % 64)) (sym same))
  | inr other ↦ same-bit ws (slice_set ws (key / 64) x) k (other-word ws (key / 64) k x other)
]

pub added : (ws : List ℕ) (key : ℕ) → key / 64 < length ws
    → HasAdded (record { words = ws }) (record { words = slice_set ws (key / 64) (bit_or (slice_index_or ws (key / 64) 0) (1 * 2 ^ (key % 64) % 2 ^ 64)) }) key
added ws key within =
    let word = slice_index_or ws (key / 64) 0 in
    let x = bit_or word (1 * 2 ^ (key % 64) % 2 ^ 64) in
    let low : key % 64 < 64 = omega arith in
    record {
      new = λ _. at-word ws (key / 64) key x within refl ∙ bit_at_set_same w64 word (key % 64) low;
      others = others-stay ws key x within (λ i lt other. bit_at_set_other w64 word (key % 64) low i other);
    }

one-zero : (n : ℕ) → n ≡ 1 → n ≡ 0 → ⊥
one-zero n e f = absurd (omega (arith, e, f))

-- below the lowest bit of this word there is none, where there is none in those before it
none-below : (ws : List ℕ) (p k : ℕ) → ((j : ℕ) → j < 64 * p → ¬ HasKey (record { words = ws }) j) → trailing_zeros w64 (slice_index_or ws p 0) < 64
    → ((i : ℕ) → i < trailing_zeros w64 (slice_index_or ws p 0) → bit_at (slice_index_or ws p 0) i ≡ 0)
    → k < 64 * p + trailing_zeros w64 (slice_index_or ws p 0) → ¬ HasKey (record { words = ws }) k
none-below ws p k none lt zeros less h = elim (cases_eq (k / 64) p) [
  | inl same ↦
      let low : k % 64 < trailing_zeros w64 (slice_index_or ws p 0) = omega (arith, less, same) in
      one-zero _ h (ap (λ m. bit_at (slice_index_or ws m 0) (k % 64)) same ∙ zeros (k % 64) low)
  | inr other ↦ none k (omega (arith, less, lt, other)) h
]

-- the lowest bit of the first word that isn't 0 goes
pub taken : (ws : List ℕ) (p : ℕ) → p < length ws → p < 16 → 0 < slice_index_or ws p 0 → slice_index_or ws p 0 < 2 ^ 64 → ((k : ℕ) → k < 64 * p → ¬ HasKey (record { words = ws }) k)
    → HasTaken (record { words = ws }) (record { words = slice_set ws p (bit_and (slice_index_or ws p 0) (bit_not w64 (1 * 2 ^ trailing_zeros w64 (slice_index_or ws p 0) % 2 ^ 64))) }) (Some (64 * p + trailing_zeros w64 (slice_index_or ws p 0)))
taken ws p within few some fits none =
    let word = slice_index_or ws p 0 in
    let bit = trailing_zeros w64 word in
    let low = bit_at-trailing_zeros w64 word some fits in
    let lt : bit < 64 = low.0 in
    let key = 64 * p + bit in
    let place : key / 64 ≡ p = omega (arith, lt) in
    let rest : key % 64 ≡ bit = omega (arith, lt) in
    let x = bit_and word (bit_not w64 (1 * 2 ^ bit % 2 ^ 64)) in
    let here : HasKey (record { words = ws }) key = ap (λ m. bit_at (slice_index_or ws m 0) (key % 64)) place ∙ ap (λ i. bit_at word i) rest ∙ low.1 in
    let gone : bit_at (slice_index_or (slice_set ws p x) (key / 64) 0) (key % 64) ≡ 0 =
    at-word ws p key x within place ∙ ap (λ i. bit_at x i) rest ∙ bit_at_clear_same w64 word bit lt in
    let stay : (i : ℕ) → i < 64 → i ≢ key % 64 → bit_at x i ≡ bit_at (slice_index_or ws (key / 64) 0) i =
    λ i less other. bit_at_clear_other w64 word bit lt i less (λ same. other (same ∙ sym rest)) ∙ ap (λ m. bit_at (slice_index_or ws m 0) i) (sym place) in (
      omega (arith, few, lt),
      here,
      (λ h. one-zero _ h gone),
      (λ k less h. none-below ws p k none lt low.2 less h),
      (λ k not. subst (λ m. HasKey (record { words = slice_set ws m x }) k ↔ HasKey (record { words = ws }) k) place
          (others-stay ws key x (subst (λ m. m < length ws) (sym place) within) stay k not)),
    )
