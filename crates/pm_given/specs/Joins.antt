-- The elements of a word that contain an element, and what is given there.
use Rattle.std.specs.Prelude.{◌≡◌, ◌<◌, ◌*◌, ◌+◌, ℕ, Bool, true, ◌==◌, ◌&&◌}
use Rattle.std.specs.Int.{bit_at}
use Rattle.pm_model.specs.declared.rights.Grant.{Grant}
use Rattle.pm_decide.specs.Gives.{gives}
use Rattle.pm_decide.specs.Hits.{in_word}

-- e is in each whose bit is set
abbrev pub AreIn : (ℕ → ℕ → Bool) → ℕ → ℕ → ℕ → Type 0
AreIn below e k word = (i : ℕ) → i < 64 → (bit_at word i == 1) ≡ true → below e (64 * k + i) ≡ true

-- the grant is on one of them, and gives the right on e in the class
abbrev pub gives_in : (ℕ → ℕ → Bool) → ℕ → ℕ → ℕ → ℕ → ℕ → Grant → Bool
gives_in below k word r e c h = in_word k word h.at && gives below r e c h
