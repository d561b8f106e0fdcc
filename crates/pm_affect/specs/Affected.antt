-- The region of a change: the pairs of a user and an element whose rights it can change. The project's own.
use Rattle.std.specs.Prelude.{ℕ, Bool, false, true, ◌==◌, ◌&&◌, ◌||◌, Option, None, Some, slice_get}
use Rattle.pm_model.specs.State.{Graph}
use Rattle.pm_model.specs.Containment.{contained}
use Rattle.pm_model.specs.Decision.{range_by, applies_by}
use Rattle.pm_model.specs.declared.prohibitions.Prohibition.{Prohibition}
use Rattle.pm_model.specs.declared.requests.Change.{Change}
use Rattle.pm_model.specs.declared.requests.Change.TheVariants.{Create, Delete, Assign, Deassign, Associate, Dissociate, Prohibit, Lift}
use Rattle.pm_affect.specs.declared.region.Region.{Region}
use Rattle.pm_affect.specs.declared.region.Region.TheVariants.{Nothing, One, Under, Between, Barred}

-- the pair lies in the region, by a test of containment
abbrev pub is_in : (ℕ → ℕ → Bool) → Region → ℕ → ℕ → Bool
is_in below Nothing u e = false
is_in below (One x) u e = u == x || e == x
is_in below (Under x) u e = below u x || below e x
is_in below (Between ua at) u e = below u ua && below e at
is_in below (Barred p) u e = applies_by below u None p.subject && range_by below p.mode p.inc p.exc e

-- the change makes or lifts a prohibition
abbrev pub is_of_prohibition : Change → Bool
is_of_prohibition (Prohibit p) = true
is_of_prohibition (Lift i) = true
is_of_prohibition _ = false

abbrev pub barred : Option Prohibition → Region
barred (Some p) = Barred p
barred None = Nothing

-- the region of a change; `lifted` is the prohibition that it lifts, if any
abbrev pub region_by : Change → Option Prohibition → Region
region_by (Create id kind name into) lifted = One id
region_by (Delete id) lifted = One id
region_by (Assign x y) lifted = Under x
region_by (Deassign x y) lifted = Under x
region_by (Associate ua rights at) lifted = Between ua at
region_by (Dissociate ua at) lifted = Between ua at
region_by (Prohibit p) lifted = Barred p
region_by (Lift i) lifted = barred lifted
region_by _ lifted = Nothing

abbrev pub lifted_by : Graph → Change → Option Prohibition
lifted_by G (Lift i) = slice_get G.prohibitions i
lifted_by G _ = None

abbrev pub region_of : Graph → Change → Region
region_of G change = region_by change (lifted_by G change)

-- with the containment before the change
abbrev pub region : Graph → Change → ℕ → ℕ → Bool
region G change u e = is_in (contained G.assigned) (region_of G change) u e

-- with that after it
abbrev pub region_after : Graph → Graph → Change → ℕ → ℕ → Bool
region_after G H change u e = is_in (contained H.assigned) (region_of G change) u e
