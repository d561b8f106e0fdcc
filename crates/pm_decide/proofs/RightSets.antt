-- Sets of rights as numbers: what a set has after an operation on bits, and that what it has makes it.
use Rattle.std.proofs.Common.{◌≡◌, ◌==◌, ℕ, zero, suc, ◌+◌, ◌-◌, ◌*◌, ◌^◌, ◌<◌, ◌≤◌, min, max, Bool, true, false, not, ◌&&◌, ◌||◌, refl, sym, ap, ◌∙◌, arith, if◌then◌else◌, bit_or, bit_and, inl, inr, ◌⊎◌}
use Rattle.std.specs.Int.{bit_at, bit_not}
use Rattle.std.proofs.lemmas.Nat.Bits.{bit_at_and, bit_at_or, bit_at_not, bit_at_ones, bit_at-zero, bit_at-lt, bit_at_cat_low, bit_at_cat_high, same_from_bits_below}
use Rattle.std.proofs.lemmas.Bool.{cases_lt}
use Rattle.pm_model.specs.RightSet.{has_right, from_bits, right_bits, right_width}
use Rattle.pm_decide.specs.Sets.{IsSetOf}

-- ---- one bit

either : (x y : ℕ) → x < 2 → y < 2 → (max x y == 1) ≡ ((x == 1) || (y == 1))
either zero zero h k = refl
either zero (suc zero) h k = refl
either (suc zero) zero h k = refl
either (suc zero) (suc zero) h k = refl
either (suc (suc x)) y h k = absurd (omega arith)
either x (suc (suc y)) h k = absurd (omega arith)

both : (x y : ℕ) → x < 2 → y < 2 → (min x y == 1) ≡ ((x == 1) && (y == 1))
both zero zero h k = refl
both zero (suc zero) h k = refl
both (suc zero) zero h k = refl
both (suc zero) (suc zero) h k = refl
both (suc (suc x)) y h k = absurd (omega arith)
both x (suc (suc y)) h k = absurd (omega arith)

other : (x : ℕ) → x < 2 → (1 - x == 1) ≡ not (x == 1)
other zero h = refl
other (suc zero) h = refl
other (suc (suc x)) h = absurd (omega arith)

one_test : (x y : ℕ) → x < 2 → y < 2 → (x == 1) ≡ (y == 1) → x ≡ y
one_test zero zero h k e = refl
one_test zero (suc zero) h k e = cc
one_test (suc zero) zero h k e = cc
one_test (suc zero) (suc zero) h k e = refl
one_test (suc (suc x)) y h k e = absurd (omega arith)
one_test x (suc (suc y)) h k e = absurd (omega arith)

has-or : (a b r : ℕ) → has_right (bit_or a b) r ≡ (has_right a r || has_right b r)
has-or a b r = rw bit_at_or (either (bit_at a r) (bit_at b r) (bit_at-lt a r) (bit_at-lt b r))

pub has-and : (a b r : ℕ) → has_right (bit_and a b) r ≡ (has_right a r && has_right b r)
has-and a b r = rw bit_at_and (both (bit_at a r) (bit_at b r) (bit_at-lt a r) (bit_at-lt b r))

has-not : (a r : ℕ) → a < 2 ^ right_bits → r < right_bits → has_right (bit_not right_width a) r ≡ not (has_right a r)
has-not a r small h = rw (bit_at_not right_width a r small h) (other (bit_at a r) (bit_at-lt a r))

has-none : (r : ℕ) → has_right 0 r ≡ false
has-none r = rw bit_at-zero refl

has-all : (r : ℕ) → r < right_bits → has_right (2 ^ right_bits - 1) r ≡ true
has-all r h = rw (bit_at_ones right_bits r h) refl

-- ---- a set made by its test

bit_of : Bool → ℕ
bit_of b = if b then 1 else 0

from_bits-suc : (passes : ℕ → Bool) (n : ℕ) → from_bits passes (suc n) ≡ bit_of (passes n) * 2 ^ n + from_bits passes n
unfolding from_bits bit_of
from_bits-suc passes n = by_test (passes n) where
  by_test : (b : Bool) → from_bits passes n + (if b then 2 ^ n else 0) ≡ (if b then 1 else 0) * 2 ^ n + from_bits passes n
  by_test true = omega arith
  by_test false = omega arith

from_bits-small : (passes : ℕ → Bool) (n : ℕ) → from_bits passes n < 2 ^ n
unfolding from_bits
from_bits-small passes zero = omega arith
from_bits-small passes (suc n) = by_test (passes n) (from_bits-small passes n) where
  by_test : (b : Bool) → from_bits passes n < 2 ^ n → from_bits passes n + (if b then 2 ^ n else 0) < 2 ^ (suc n)
  by_test true h = grind arith
  by_test false h = grind arith

bit_at-bit : (b : Bool) → (bit_at (bit_of b) 0 == 1) ≡ b
unfolding bit_of
bit_at-bit true = refl
bit_at-bit false = refl

from_bits-has : (passes : ℕ → Bool) (n r : ℕ) → r < n → has_right (from_bits passes n) r ≡ passes r
from_bits-has passes zero r h = absurd (omega arith)
from_bits-has passes (suc n) r h = rw from_bits-suc (by_place (cases_lt r n) (from_bits-has passes n r)) where
  by_place : (r < n) ⊎ (n ≤ r) → (r < n → has_right (from_bits passes n) r ≡ passes r) →
      has_right (bit_of (passes n) * 2 ^ n + from_bits passes n) r ≡ passes r
  by_place (inl before) rest = rw (bit_at_cat_low (bit_of (passes n)) n (from_bits passes n) r before) (rest before)
  by_place (inr from) rest =
      let last : r ≡ n = omega arith in
      let place : r - n ≡ 0 = omega arith in
      rw (bit_at_cat_high (bit_of (passes n)) n (from_bits passes n) r (from_bits-small passes n) from, place, last) (bit_at-bit (passes n))

pub set-from_bits : (passes : ℕ → Bool) (rights : ℕ) → IsSetOf passes rights → rights < 2 ^ right_bits → rights ≡ from_bits passes right_bits
set-from_bits passes rights is small = same_from_bits_below right_bits rights (from_bits passes right_bits) small (from_bits-small passes right_bits)
    (λ r h. one_test _ _ (bit_at-lt rights r) (bit_at-lt (from_bits passes right_bits) r) (is r h ∙ sym (from_bits-has passes right_bits r h)))

pub set-same : (rights : ℕ) (passes same : ℕ → Bool) → IsSetOf passes rights → ((r : ℕ) → passes r ≡ same r) → IsSetOf same rights
set-same rights passes same is alike = λ r h. is r h ∙ alike r

pub set-none : (passes : ℕ → Bool) → ((r : ℕ) → false ≡ passes r) → IsSetOf passes 0
set-none passes none = λ r h. has-none r ∙ none r

pub set-all : (passes : ℕ → Bool) → ((r : ℕ) → true ≡ passes r) → IsSetOf passes (2 ^ right_bits - 1)
set-all passes all = λ r h. has-all r h ∙ all r

pub unasked : (within met : Bool) → false ≡ within → true ≡ (not within || met)
unasked within met out = rw (← out) refl

pub set_without : (held denied : ℕ) → denied < 2 ^ right_bits →
    IsSetOf (λ r. has_right held r && not (has_right denied r)) (bit_and held (bit_not right_width denied))
set_without held denied small = λ r h. has-and held (bit_not right_width denied) r ∙ rw (has-not denied r small h) refl

-- ---- sets put together one by one

-- the set so far, or the test of what is left, is the whole
abbrev pub IsJoining : ℕ → (ℕ → Bool) → (ℕ → Bool) → Type 0
IsJoining so_far left whole = (r : ℕ) → r < right_bits → (has_right so_far r || left r) ≡ whole r

or_step : (so_far here later left whole next : Bool) → (so_far || left) ≡ whole → left ≡ (here || later) → next ≡ (so_far || here) →
    (next || later) ≡ whole
or_step true here later left whole next before split is = rw is before
or_step false here later left whole next before split is = rw is (sym split ∙ before)

pub joining-more : (so_far more : ℕ) (here later left whole : ℕ → Bool) → IsJoining so_far left whole → IsSetOf here more →
    ((r : ℕ) → left r ≡ (here r || later r)) → IsJoining (bit_or so_far more) later whole
joining-more so_far more here later left whole joining is split = λ r h.
    or_step (has_right so_far r) (here r) (later r) (left r) (whole r) _ (joining r h) (split r)
    (has-or so_far more r ∙ ap (λ b. has_right so_far r || b) (is r h))

pub joining-from : (left whole : ℕ → Bool) → ((r : ℕ) → left r ≡ whole r) → IsJoining 0 left whole
joining-from left whole same = λ r h. rw (has-none r) (same r)

pub joining-begun : (whole : ℕ → Bool) → IsJoining 0 whole whole
joining-begun whole = joining-from whole whole (λ r. refl)

-- where nothing is left
pub joining-done : (so_far : ℕ) (left whole : ℕ → Bool) → IsJoining so_far left whole → ((r : ℕ) → false ≡ left r) → IsSetOf whole so_far
joining-done so_far left whole joining none = λ r h. sym (last (has_right so_far r)) ∙ rw (← none r) at (joining r h) where
  last : (b : Bool) → (b || false) ≡ b
  last true = refl
  last false = refl

-- the set so far, and the test of what is left, is the whole
abbrev pub IsMeeting : ℕ → (ℕ → Bool) → (ℕ → Bool) → Type 0
IsMeeting so_far left whole = (r : ℕ) → r < right_bits → (has_right so_far r && left r) ≡ whole r

and_step : (so_far here later left whole next : Bool) → (so_far && left) ≡ whole → left ≡ (here && later) → next ≡ (so_far && here) →
    (next && later) ≡ whole
and_step true here later left whole next before split is = rw is (sym split ∙ before)
and_step false here later left whole next before split is = rw is before

pub meeting-begun : (whole : ℕ → Bool) → IsMeeting (2 ^ right_bits - 1) whole whole
meeting-begun whole = λ r h. rw (has-all r h) refl

pub meeting-more : (so_far more : ℕ) (here later left whole : ℕ → Bool) → IsMeeting so_far left whole → IsSetOf here more →
    ((r : ℕ) → left r ≡ (here r && later r)) → IsMeeting (bit_and so_far more) later whole
meeting-more so_far more here later left whole meeting is split = λ r h.
    and_step (has_right so_far r) (here r) (later r) (left r) (whole r) _ (meeting r h) (split r)
    (has-and so_far more r ∙ ap (λ b. has_right so_far r && b) (is r h))

-- where the set so far is empty, whatever is left to meet
and_none : (a left whole : Bool) → (a && left) ≡ whole → a ≡ false → false ≡ whole
and_none a left whole is none = rw none at is

pub met_none : (so_far : ℕ) (left whole : ℕ → Bool) → IsMeeting so_far left whole → so_far ≡ 0 → IsSetOf whole 0
met_none so_far left whole meeting none = λ r h.
    has-none r ∙ and_none (has_right so_far r) (left r) (whole r) (meeting r h) (ap (λ x. has_right x r) none ∙ has-none r)

-- ---- what is held and not denied

pub held-none : (held : ℕ) (has bars : ℕ → Bool) → IsSetOf has held → held ≡ 0 → 0 ≡ from_bits (λ r. has r && not (bars r)) right_bits
held-none held has bars is none =
    set-from_bits (λ r. has r && not (bars r)) 0
    (λ r h. has-none r ∙ and_none (has r) (not (bars r)) (has r && not (bars r)) refl (sym (is r h) ∙ ap (λ x. has_right x r) none ∙ has-none r))
    (omega arith)

pub held-without : (held denied rights : ℕ) (has bars : ℕ → Bool) → IsSetOf has held → IsSetOf bars denied →
    IsSetOf (λ r. has_right held r && not (has_right denied r)) rights → rights < 2 ^ right_bits →
    rights ≡ from_bits (λ r. has r && not (bars r)) right_bits
held-without held denied rights has bars is_held is_denied is small =
    set-from_bits (λ r. has r && not (bars r)) rights (λ r h. is r h ∙ rw (is_held r h, is_denied r h) refl) small
