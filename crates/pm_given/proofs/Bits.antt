-- A set of rights that is made by a test has those that pass it.
use Rattle.std.proofs.Common.{◌≡◌, ◌==◌, ◌⊎◌, ℕ, zero, suc, ◌+◌, ◌-◌, ◌*◌, ◌^◌, ◌<◌, ◌≤◌, Bool, true, false, not, ◌&&◌, List, [], None, if◌then◌else◌, refl, sym, ◌∙◌, arith, inl, inr}
use Rattle.std.proofs.lemmas.Nat.Bits.{bit_at_cat_low, bit_at_cat_high}
use Rattle.std.specs.Int.{bit_at}
use Rattle.std.proofs.lemmas.Bool.{cases_lt}
use Rattle.pm_model.specs.Decision.{has_right_on, privilege, rights_on}
use Rattle.pm_model.specs.RightSet.{has_right, from_bits, right_bits}
use Rattle.pm_model.specs.declared.rights.Association.{Association}
use Rattle.pm_decide.specs.Sets.{IsSetOf}

bit_of : Bool → ℕ
bit_of b = if b then 1 else 0

from_bits-suc : (passes : ℕ → Bool) (n : ℕ) → from_bits passes (suc n) ≡ bit_of (passes n) * 2 ^ n + from_bits passes n
unfolding from_bits bit_of
from_bits-suc passes n = by_test (passes n) where
  by_test : (b : Bool) → from_bits passes n + (if b then 2 ^ n else 0) ≡ (if b then 1 else 0) * 2 ^ n + from_bits passes n
  by_test true = omega arith
  by_test false = omega arith

from_bits-small : (passes : ℕ → Bool) (n : ℕ) → from_bits passes n < 2 ^ n
unfolding from_bits
from_bits-small passes zero = omega arith
from_bits-small passes (suc n) = by_test (passes n) (from_bits-small passes n) where
  by_test : (b : Bool) → from_bits passes n < 2 ^ n → from_bits passes n + (if b then 2 ^ n else 0) < 2 ^ (suc n)
  by_test true h = grind arith
  by_test false h = grind arith

bit_at-bit : (b : Bool) → (bit_at (bit_of b) 0 == 1) ≡ b
unfolding bit_of
bit_at-bit true = refl
bit_at-bit false = refl

pub from_bits-has : (passes : ℕ → Bool) (n r : ℕ) → r < n → has_right (from_bits passes n) r ≡ passes r
from_bits-has passes zero r h = absurd (omega arith)
from_bits-has passes (suc n) r h = rw from_bits-suc (by_place (cases_lt r n) (from_bits-has passes n r)) where
  by_place : (r < n) ⊎ (n ≤ r) → (r < n → has_right (from_bits passes n) r ≡ passes r) →
      has_right (bit_of (passes n) * 2 ^ n + from_bits passes n) r ≡ passes r
  by_place (inl before) rest = rw (bit_at_cat_low (bit_of (passes n)) n (from_bits passes n) r before) (rest before)
  by_place (inr from) rest =
      let last : r ≡ n = omega arith in
      let place : r - n ≡ 0 = omega arith in
      rw (bit_at_cat_high (bit_of (passes n)) n (from_bits passes n) r (from_bits-small passes n) from, place, last) (bit_at-bit (passes n))

-- with no prohibitions the rights are the privileges
pub rights-free : (below : ℕ → ℕ → Bool) (associations : List Association) (classes : List ℕ) (u e : ℕ) →
    IsSetOf (λ r. privilege below associations classes u r e) (rights_on below associations [] classes u e)
rights-free below associations classes u e = λ r h.
    from_bits-has (has_right_on below associations [] classes u e) right_bits r h ∙ alone (privilege below associations classes u r e) where
      alone : (b : Bool) → (b && true) ≡ b
      alone true = refl
      alone false = refl
