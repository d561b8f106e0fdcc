-- A set of numbers as a row of bits, in words of 64.
use Rattle.std.specs.Prelude.{ℕ, Bool, ◌==◌, ◌/◌, ◌%◌, List, slice_index}
use Rattle.std.specs.Int.{bit_at}

-- whether the row has y; past its last word it has nothing
abbrev pub in_row : List ℕ → ℕ → Bool
in_row words y = bit_at (slice_index words (y / 64)) (y % 64) == 1
