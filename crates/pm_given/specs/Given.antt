-- What a user is given. Source: the report's derived privileges, by the associations of the attributes that contain the user.
use Rattle.std.specs.Prelude.{ℕ, Bool, List, [], ◌∷◌, ◌++◌, ◌==◌, ◌&&◌, if◌then◌else◌, Option, None, Some, true}
use Rattle.std.specs.List.{list_any}
use Rattle.pm_model.specs.RightSet.{has_right}
use Rattle.pm_model.specs.declared.rights.Grant.{Grant}
use Rattle.pm_model.specs.declared.rights.Grantee.{Grantee}

-- the grants of the user attributes that contain u
abbrev pub given : (ℕ → ℕ → Bool) → ℕ → List Grantee → List Grant
given below u [] = []
given below u (g ∷ gs) = if below u g.ua then g.grants ++ given below u gs else given below u gs

-- what is asked of a grant: whether it has a right, or, where none is named, nothing
abbrev pub has : Option ℕ → Grant → Bool
has None h = true
has (Some r) h = has_right h.rights r

-- the grant has it, and is on p itself
abbrev pub is_at : Option ℕ → ℕ → Grant → Bool
is_at q p h = has q h && h.at == p

-- some grant of the user attribute is such
abbrev pub some_at : Option ℕ → ℕ → Grantee → Bool
some_at q p g = list_any (is_at q p) g.grants
