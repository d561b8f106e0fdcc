-- What a set of rights has.
use Rattle.std.specs.Prelude.{◌≡◌, ◌<◌, ℕ, Bool}
use Rattle.pm_model.specs.RightSet.{has_right, right_bits}

-- the set has the rights that pass the test, and no others
abbrev pub IsSetOf : (ℕ → Bool) → ℕ → Type 0
IsSetOf passes rights = (r : ℕ) → r < right_bits → has_right rights r ≡ passes r
