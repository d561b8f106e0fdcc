-- The region of a change row by row: which elements lie in it with one user. The project's own.
use Rattle.std.specs.Prelude.{◌≡◌, ◌/◌, ℕ, Bool, true, false, ◌==◌, ◌&&◌, ◌||◌, not, if◌then◌else◌, length, List, map, filter, None}
use Rattle.std.specs.List.{list_any}
use Rattle.pm_model.specs.Containment.{Relation}
use Rattle.pm_model.specs.Decision.{range_by, applies_by}
use Rattle.pm_model.specs.declared.prohibitions.Subject.{Subject}
use Rattle.pm_model.specs.declared.prohibitions.Subject.TheVariants.{Process}
use Rattle.pm_decide.specs.Live.{IsLive}
use Rattle.pm_affect.specs.Lists.{Lists, subjects}
use Rattle.pm_affect.specs.declared.touching.Asked.{Asked}
use Rattle.pm_affect.specs.declared.touching.Side.{Side}
use Rattle.pm_affect.specs.declared.touching.Side.TheVariants.{User, Element}
use Rattle.pm_affect.specs.declared.region.Region.{Region}
use Rattle.pm_affect.specs.declared.region.Region.TheVariants.{Nothing, One, Under, Between, Barred}
use Rattle.pm_affect.specs.declared.region.Row.{Row}
use Rattle.pm_affect.specs.declared.region.Row.TheVariants.{Empty, Near, Whole}

-- which elements lie in it with the user: none, all, or those that are near
abbrev pub row_by : (ℕ → ℕ → Bool) → Region → ℕ → Row
row_by below Nothing u = Empty
row_by below (One x) u = if u == x then Whole else Near
row_by below (Under x) u = if below u x then Whole else Near
row_by below (Between ua at) u = if below u ua then Near else Empty
row_by below (Barred p) u = if applies_by below u None p.subject then Near else Empty

-- the element lies in it with each user that has a row of those that are near
abbrev pub is_near : (ℕ → ℕ → Bool) → Region → ℕ → Bool
is_near below Nothing e = false
is_near below (One x) e = e == x
is_near below (Under x) e = below e x
is_near below (Between ua at) e = below e at
is_near below (Barred p) e = range_by below p.mode p.inc p.exc e

abbrev pub is_near_row : Row → Bool
is_near_row Near = true
is_near_row _ = false

-- the user has a row of those that are near
abbrev pub has_near : (ℕ → ℕ → Bool) → Region → ℕ → Bool
has_near below region u = is_near_row (row_by below region u)

abbrev pub is_some_row : Row → Bool
is_some_row Empty = false
is_some_row _ = true

-- some element may lie in it with the user: the row isn't empty
abbrev pub has_row : (ℕ → ℕ → Bool) → Region → ℕ → Bool
has_row below region u = is_some_row (row_by below region u)

abbrev pub is_process : Subject ℕ ℕ → Bool
is_process (Process p) = true
is_process _ = false

-- no pair lies in it, whatever is contained in what
abbrev pub is_nothing : Region → Bool
is_nothing Nothing = true
is_nothing (Barred p) = is_process p.subject
is_nothing _ = false

-- all pairs of some users lie in it, whatever is near
abbrev pub is_wide : Region → Bool
is_wide (One x) = true
is_wide (Under x) = true
is_wide _ = false

-- on which side of a pair an element stands, and whether it is near there, or has a row of those that are
abbrev pub near_on : Side → (ℕ → ℕ → Bool) → Region → ℕ → Bool
near_on User below region u = has_near below region u
near_on Element below region e = is_near below region e

-- some pair of the region may lie in the scope of a kept review, whose lists these are: all pairs of some users do, or some of
-- those that the reviews are of are near
abbrev pub may_touch : (ℕ → ℕ → Bool) → Region → Lists → Bool
may_touch below region L =
    not (is_nothing region || (length L.caps == 0 && length L.entries == 0))
    && (is_wide region || list_any (near_on User below region) (subjects L.caps) || list_any (near_on Element below region) (subjects L.entries))

-- no live number of the 64 that were asked about last passes the test, where none may
abbrev pub ArePassed : (ℕ → Bool) → Relation → Asked → Type 0
ArePassed test relation asked = (x : ℕ) → asked.may ≡ false → IsLive relation x → x / 64 ≡ asked.k → test x ≡ false

-- the user with each of the elements
abbrev pub with_each : ℕ → List ℕ → List (ℕ × ℕ)
with_each u es = map (λ e. (u, e)) es

-- with those of them that lie inside
abbrev pub row : (ℕ → ℕ → Bool) → ℕ → List ℕ → List (ℕ × ℕ)
row inside u es = with_each u (filter (inside u) es)
