-- Rows that copies share have nothing ready: a step is prepared on a table's own.
use Rattle.std.specs.Prelude.{◌≡◌, Bool, true, false, None, ⊤}
use Rattle.std.specs.Arc.{arc_value}
use Rattle.pm_reach.specs.Rows.{Readied}
use Rattle.pm_reach.specs.declared.held.Held.{Held}
use Rattle.pm_reach.specs.declared.held.Held.TheVariants.{Own, Shared}

abbrev pub IsUnready : Held Readied → Type 0
IsUnready (Own r) = ⊤
IsUnready (Shared a) = (arc_value a).ready ≡ None

-- whether no other table has it
abbrev pub is_owned : {T : Type 0} → Held T → Bool
is_owned (Own x) = true
is_owned (Shared a) = false
