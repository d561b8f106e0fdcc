-- What associations are on, as a decision asks about it.
use Rattle.std.specs.Prelude.{◌≡◌, ℕ, Bool, true, false, List}
use Rattle.std.specs.List.{list_any}
use Rattle.pm_model.specs.Grants.{is_told}
use Rattle.pm_model.specs.declared.grants.PlaceWord.{PlaceWord}
use Rattle.pm_model.specs.declared.rights.Grant.{Grant}

-- some association is on what contains e
abbrev pub some_on : (ℕ → ℕ → Bool) → ℕ → List Grant → Bool
some_on below e grants = list_any (λ (h : Grant). below e h.at) grants

-- none of the numbers that the words have contains e
abbrev pub NoneContains : (ℕ → ℕ → Bool) → ℕ → List PlaceWord → Type 0
NoneContains below e places = (n : ℕ) → is_told places n ≡ true → below e n ≡ false
