-- Words of 64 bits, as sets of numbers.
use Rattle.std.proofs.Common.{◌≡◌, ◌≢◌, ℕ, zero, suc, ◌+◌, ◌*◌, ◌/◌, ◌%◌, ◌^◌, ◌<◌, ◌==◌, ◌||◌, bit_or, max, refl, sym, ap, ◌∙◌, arith, inl, inr}
use Rattle.std.specs.Int.{bit_at}
use Rattle.std.proofs.lemmas.Nat.Bits.{bit_at_or, bit_at-lt, bit_at-zero, bit_at-pow_same, bit_at-pow_other}
use Rattle.std.proofs.lemmas.Bool.{cases_eq, eq-eqb, ne_eqb}
use Rattle.std.proofs.lemmas.Nat.{mod-mul-add}
use Rattle.std.proofs.Math.Nat.{mod-lt}
use Rattle.std.proofs.Math.Pow.{pow-lt}

max_or : (m n : ℕ) → m < 2 → n < 2 → (max m n == 1) ≡ (m == 1 || n == 1)
max_or zero zero h k = refl
max_or zero (suc zero) h k = refl
max_or (suc zero) zero h k = refl
max_or (suc zero) (suc zero) h k = refl
max_or (suc (suc m)) n h k = absurd (omega arith)
max_or zero (suc (suc n)) h k = absurd (omega arith)
max_or (suc zero) (suc (suc n)) h k = absurd (omega arith)

-- a union has what either has
pub bit_or_has : (a b i : ℕ) → (bit_at (bit_or a b) i == 1) ≡ (bit_at a i == 1 || bit_at b i == 1)
bit_or_has a b i = rw bit_at_or (max_or (bit_at a i) (bit_at b i) (bit_at-lt a i) (bit_at-lt b i))

power_bit : (m i : ℕ) → (bit_at (2 ^ m) i == 1) ≡ (m == i)
power_bit m i = elim (cases_eq i m) [
  | inl e ↦ rw (e, bit_at-pow_same m, eq-eqb m m refl) refl
  | inr d ↦ rw (bit_at-pow_other m i d, ne_eqb m i (λ e. d (sym e))) refl
]

mod-small : (a w : ℕ) → a < w → a % w ≡ a
mod-small a w h = let front : 0 * w + a ≡ a = omega arith in ap (λ x. x % w) (sym front) ∙ mod-mul-add 0 w a h

-- the word of a number has it at its place
pub bit_here : (n k i : ℕ) → n / 64 ≡ k → i < 64 → (bit_at (1 * 2 ^ (n % 64) % 2 ^ 64) i == 1) ≡ (n == 64 * k + i)
bit_here n k i here below =
    let fits : 1 * 2 ^ (n % 64) ≡ 2 ^ (n % 64) = omega arith in
    let small : 2 ^ (n % 64) < 2 ^ 64 = pow-lt (mod-lt n (omega arith)) in
    let same : 2 ^ (n % 64) % 2 ^ 64 ≡ 2 ^ (n % 64) = mod-small (2 ^ (n % 64)) (2 ^ 64) small in
    ap (λ w. bit_at (w % 2 ^ 64) i == 1) fits ∙ ap (λ w. bit_at w i == 1) same ∙ power_bit (n % 64) i ∙ placed (n % 64) refl where
      placed : (m : ℕ) → n % 64 ≡ m → (m == i) ≡ (n == 64 * k + i)
      placed m is = elim (cases_eq m i) [
        | inl e ↦ rw (eq-eqb m i e, eq-eqb n (64 * k + i) (omega arith)) refl
        | inr d ↦ rw (ne_eqb m i d, ne_eqb n (64 * k + i) (λ e. d (omega arith))) refl
      ]

-- other words don't
pub bit_elsewhere : (n k i : ℕ) → n / 64 ≢ k → i < 64 → (bit_at 0 i == 1) ≡ (n == 64 * k + i)
bit_elsewhere n k i other below = rw (bit_at-zero i, ne_eqb n (64 * k + i) (λ e. other (omega arith))) refl
