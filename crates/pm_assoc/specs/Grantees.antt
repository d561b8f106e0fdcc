-- The user attributes that have associations, each with these: by rising user attribute, and none without any.
use Rattle.std.specs.Prelude.{◌≡◌, ℕ, zero, suc, Bool, false, ◌==◌, ◌||◌, ◌+◌, ◌<◌, ◌≤◌, List, [], ◌∷◌, ◌++◌, length, if◌then◌else◌}
use Rattle.std.specs.List.{list_any}
use Rattle.pm_model.specs.Grants.{is_on, grants_off}
use Rattle.pm_model.specs.declared.rights.Association.{Association}
use Rattle.pm_model.specs.declared.rights.Grant.{Grant}
use Rattle.pm_model.specs.declared.rights.Grantee.{Grantee}

abbrev pub grantee : ℕ → List Grant → Grantee
grantee ua grants = record { ua = ua; grants = grants }

-- what the grant gives the user attribute
abbrev pub association : ℕ → Grant → Association
association ua grant = record { ua = ua; rights = grant.rights; at = grant.at }

-- the user attribute is this element, or has an association on it
abbrev pub mentions : ℕ → Grantee → Bool
mentions id g = g.ua == id || list_any (is_on id) g.grants

-- the user attributes rise, the first is at least n, and each has an association
abbrev pub AreGrantees : ℕ → List Grantee → Type 0
AreGrantees n [] = Unit {0}
AreGrantees n (g ∷ gs) = (n ≤ g.ua) × (0 < length g.grants) × AreGrantees (g.ua + 1) gs

-- the user attribute stands at place i, behind lower ones
abbrev pub IsAt : ℕ → List Grantee → ℕ → Type 0
IsAt ua [] i = ⊥
IsAt ua (g ∷ gs) zero = g.ua ≡ ua
IsAt ua (g ∷ gs) (suc i) = (g.ua < ua) × IsAt ua gs i

-- it would stand at place i, behind lower ones and before a higher one
abbrev pub IsGapFor : ℕ → List Grantee → ℕ → Type 0
IsGapFor ua [] i = i ≡ 0
IsGapFor ua (g ∷ gs) zero = ua < g.ua
IsGapFor ua (g ∷ gs) (suc i) = (g.ua < ua) × IsGapFor ua gs i

abbrev pub is_of : ℕ → Grantee → Bool
is_of ua g = g.ua == ua

-- a user attribute stands at place i, and passes the test
abbrev pub passes_at : (Grantee → Bool) → List Grantee → ℕ → Bool
passes_at test [] i = false
passes_at test (g ∷ gs) zero = test g
passes_at test (g ∷ gs) (suc i) = passes_at test gs i

-- the item at place i is changed
abbrev pub edited : {X : Type 0} → (X → X) → ℕ → List X → List X
edited f i [] = []
edited f zero (x ∷ xs) = f x ∷ xs
edited f (suc i) (x ∷ xs) = x ∷ edited f i xs

-- one grant more, behind the others
abbrev pub with_grant : Grant → Grantee → Grantee
with_grant grant g = grantee g.ua (g.grants ++ grant ∷ [])

abbrev pub without_grant : ℕ → Grantee → Grantee
without_grant at g = grantee g.ua (grants_off at g.grants)

-- before the others, if it has an association
abbrev pub kept : Grantee → List Grantee → List Grantee
kept g gs = if length g.grants == 0 then gs else g ∷ gs

-- the one at place i is gone if it has no association
abbrev pub without_empty : ℕ → List Grantee → List Grantee
without_empty i [] = []
without_empty zero (g ∷ gs) = kept g gs
without_empty (suc i) (g ∷ gs) = g ∷ without_empty i gs
