-- The associations of one user attribute, and words of 64 numbers that tell what they are on.
use Rattle.std.specs.Prelude.{◌≡◌, ℕ, Bool, ◌<◌, ◌==◌, ◌&&◌, ◌/◌, ◌%◌, not, List, filter, length}
use Rattle.std.specs.Int.{bit_at}
use Rattle.std.specs.List.{list_any}
use Rattle.pm_model.specs.declared.rights.Grant.{Grant}
use Rattle.pm_model.specs.declared.grants.PlaceWord.{PlaceWord}

abbrev pub is_on : ℕ → Grant → Bool
is_on at grant = grant.at == at

-- the grants that are not on `at`
abbrev pub grants_off : ℕ → List Grant → List Grant
grants_off at grants = filter (λ grant. not (is_on at grant)) grants

-- n stands in this word, and its bit is set there
abbrev pub is_in : ℕ → PlaceWord → Bool
is_in n place = place.k == n / 64 && bit_at place.word (n % 64) == 1

-- some word has n
abbrev pub is_told : List PlaceWord → ℕ → Bool
is_told places n = list_any (is_in n) places

-- the words have what the grants are on, and nothing else
abbrev pub TellPlaces : List PlaceWord → List Grant → Type 0
TellPlaces places grants = (n : ℕ) → is_told places n ≡ list_any (is_on n) grants
