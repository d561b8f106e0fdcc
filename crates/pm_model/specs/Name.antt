-- The form of a name. The project's own.
use Rattle.std.specs.Prelude.{ℕ, List, Bool, ◌&&◌, ◌||◌, ◌==◌, nat_le, nat_lt, length}
use Rattle.std.specs.List.{list_all}

abbrev pub is_between : ℕ → ℕ → ℕ → Bool
is_between low high x = nat_le low x && nat_le x high

-- an ASCII letter, a digit, `_`, `-` or `.`
abbrev pub is_name_byte : ℕ → Bool
is_name_byte x = is_between 97 122 x || is_between 65 90 x || is_between 48 57 x || x == 95 || x == 45 || x == 46

-- how many bytes a name has at most
abbrev pub longest_name : ℕ
longest_name = 64

-- 1 to so many such bytes
abbrev pub is_name : List ℕ → Bool
is_name xs = nat_lt 0 (length xs) && nat_le (length xs) longest_name && list_all is_name_byte xs
