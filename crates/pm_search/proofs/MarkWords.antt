-- A word of marks: so many of its bits say what the marks do, and the others are 0.
use Rattle.std.proofs.Common.{◌≡◌, ◌≢◌, ℕ, ◌+◌, ◌*◌, ◌%◌, ◌^◌, ◌<◌, ◌≤◌, ◌==◌, ◌&&◌, Bool, true, false, nat_lt, bit_or, w64, List, slice_index_or, refl, ap, sym, ◌∙◌, arith, inl, inr}
use Rattle.std.specs.Int.{bit_at}
use Rattle.std.proofs.lemmas.Nat.Bits.{bit_at-zero, bit_at_set_same, bit_at_set_other}
use Rattle.std.proofs.lemmas.Bool.{cases_eq, cases_lt, lt-ltb, le-ltb}

-- the first n bits say which of the numbers from start on are marked
abbrev pub TellsMarks : List Bool → ℕ → ℕ → ℕ → Type 0
TellsMarks marks start n word = (i : ℕ) → i < 64 → (bit_at word i == 1) ≡ (nat_lt i n && slice_index_or marks (start + i) false)

pub no_bits : (marks : List Bool) (start : ℕ) → TellsMarks marks start 0 0
no_bits marks start i h = rw (bit_at-zero i, le-ltb i 0 (omega arith)) refl

-- where all 64 do
pub all_bits : (marks : List Bool) (start n word : ℕ) → 64 ≤ n → TellsMarks marks start n word →
    (i : ℕ) → i < 64 → (bit_at word i == 1) ≡ slice_index_or marks (start + i) false
all_bits marks start n word all told i h = told i h ∙ rw (lt-ltb i n (omega arith)) refl

one_more : (i n : ℕ) → i ≢ n → nat_lt i (n + 1) ≡ nat_lt i n
one_more i n other = elim (cases_lt i n) [
  | inl l ↦ rw (lt-ltb i n l, lt-ltb i (n + 1) (omega arith)) refl
  | inr l ↦ rw (le-ltb i n l, le-ltb i (n + 1) (omega arith)) refl
]

pub marked_bit : (marks : List Bool) (start n word : ℕ) → n < 64 → TellsMarks marks start n word → slice_index_or marks (start + n) false ≡ true →
    TellsMarks marks start (n + 1) (bit_or word (1 * 2 ^ n % 2 ^ 64))
marked_bit marks start n word below told is i h = elim (cases_eq i n) [
  | inl e ↦ rw (e, bit_at_set_same w64 word n below, lt-ltb n (n + 1) (omega arith), is) refl
  | inr d ↦ rw (bit_at_set_other w64 word n below i d, one_more i n d) (told i h)
]

pub unmarked_bit : (marks : List Bool) (start n word : ℕ) → TellsMarks marks start n word → slice_index_or marks (start + n) false ≡ false →
    TellsMarks marks start (n + 1) word
unmarked_bit marks start n word told is i h = elim (cases_eq i n) [
  | inl e ↦ told i h ∙ rw (e, is, le-ltb n n (omega arith), lt-ltb n (n + 1) (omega arith)) refl
  | inr d ↦ rw (one_more i n d) (told i h)
]
