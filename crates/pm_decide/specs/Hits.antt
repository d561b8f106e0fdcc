-- The user attributes that have associations, by words of 64 numbers. Bit i of word k is the number 64 k + i.
use Rattle.std.specs.Prelude.{◌≡◌, ◌<◌, ℕ, ◌+◌, ◌*◌, ◌/◌, ◌%◌, Bool, true, ◌==◌, ◌&&◌, List}
use Rattle.std.specs.Int.{bit_at}
use Rattle.std.specs.List.{list_any}
use Rattle.pm_model.specs.Decision.{is_grantee}
use Rattle.pm_model.specs.declared.rights.Grantee.{Grantee}

-- the number stands in word k, and its bit is set there
abbrev pub in_word : ℕ → ℕ → ℕ → Bool
in_word k word n = n / 64 == k && bit_at word (n % 64) == 1

-- some user attribute whose number passes p passes the test
abbrev pub some_of : (ℕ → Bool) → (Grantee → Bool) → List Grantee → Bool
some_of p test gs = list_any (λ g. p g.ua && test g) gs

-- each bit that is set is a user attribute with associations
abbrev pub AreHolders : List Grantee → ℕ → ℕ → Type 0
AreHolders gs k word = (i : ℕ) → i < 64 → (bit_at word i == 1) ≡ true → list_any (is_grantee (64 * k + i)) gs ≡ true

-- the bits that are set are the user attributes with associations that contain u
abbrev pub AreHits : (ℕ → ℕ → Bool) → ℕ → List Grantee → ℕ → ℕ → Type 0
AreHits below u gs k word = (i : ℕ) → i < 64 → (bit_at word i == 1) ≡ (list_any (is_grantee (64 * k + i)) gs && below u (64 * k + i))
