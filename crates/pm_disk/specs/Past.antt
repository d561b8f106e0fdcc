-- The moments that a file has had. The project's own.
use Rattle.std.specs.Prelude.{◌⊎◌, ℕ, List, [], ◌∷◌, length, drop}
use mathlib.Core.Logic.{inl, inr}
use Rattle.pm_disk.specs.Steps.{Moment, MayLeave}

-- a crash at one of them may have left this
abbrev pub HadBeen : List Moment → List ℕ → Type 0
HadBeen [] bytes = ⊥
HadBeen (m ∷ past) bytes = MayLeave m bytes ⊎ HadBeen past bytes

none_left : (past : List Moment) (c : List ℕ) → HadBeen (drop (length past) past) c → ⊥
none_left [] c had = had
none_left (m ∷ past) c had = none_left past c had

-- since the last of them there is this one alone
pub only_this : (past : List Moment) (now : Moment) (c : List ℕ) → MayLeave now c ⊎ HadBeen (drop (length past) past) c → MayLeave now c
only_this past now c (inl here) = here
only_this past now c (inr had) = absurd (none_left past c had)
