-- The user attributes that have associations, as a set of numbers in words of 64.
use Rattle.std.specs.Prelude.{◌≡◌, ℕ, zero, suc, Bool, ◌==◌, ◌<◌, ◌/◌, ◌%◌, List, slice_index, if◌then◌else◌}
use Rattle.std.specs.Int.{bit_at}
use Rattle.std.specs.List.{list_any}
use Rattle.pm_model.specs.Decision.{is_grantee}
use Rattle.pm_model.specs.declared.rights.Grantee.{Grantee}

-- whether the set has n; past its last word it has nothing
abbrev pub in_set : List ℕ → ℕ → Bool
in_set words n = bit_at (slice_index words (n / 64)) (n % 64) == 1

-- how many numbers below n pass the test
abbrev pub count_below : (ℕ → Bool) → ℕ → ℕ
count_below test zero = 0
count_below test (suc n) = if test n then suc (count_below test n) else count_below test n

-- whether n is one of the user attributes
abbrev pub holds : List Grantee → ℕ → Bool
holds gs n = list_any (is_grantee n) gs

-- the set has these user attributes, and nothing else
abbrev pub TellsHolders : List ℕ → List Grantee → Type 0
TellsHolders words gs = (n : ℕ) → in_set words n ≡ holds gs n

-- the set has of those below b these user attributes, and nothing else
abbrev pub TellsBelow : ℕ → List ℕ → List Grantee → Type 0
TellsBelow b words gs = (n : ℕ) → n < b → in_set words n ≡ holds gs n
