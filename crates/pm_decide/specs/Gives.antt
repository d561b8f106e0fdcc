-- What a grant gives, whoever is in its user attribute.
use Rattle.std.specs.Prelude.{ℕ, Bool, ◌&&◌}
use Rattle.std.specs.List.{list_any}
use Rattle.pm_model.specs.RightSet.{has_right}
use Rattle.pm_model.specs.declared.rights.Grant.{Grant}
use Rattle.pm_model.specs.declared.rights.Grantee.{Grantee}

-- the grant has the right r and is on what contains e
abbrev pub is_on : (ℕ → ℕ → Bool) → ℕ → ℕ → Grant → Bool
is_on below r e h = has_right h.rights r && below e h.at

-- the grant gives the right r on e in the class pc
abbrev pub gives : (ℕ → ℕ → Bool) → ℕ → ℕ → ℕ → Grant → Bool
gives below r e pc h = is_on below r e h && below h.at pc

-- some grant of the user attribute does
abbrev pub some_gives : (ℕ → ℕ → Bool) → ℕ → ℕ → ℕ → Grantee → Bool
some_gives below r e pc g = list_any (gives below r e pc) g.grants
