-- A list of changes, however it is kept.
use Rattle.std.specs.Prelude.{List}
use Rattle.std.specs.Arc.{arc_value}
use Rattle.pm_model.specs.declared.reviews.Changed.{Changed}
use Rattle.pm_kept.specs.declared.changes.Held.{Held}
use Rattle.pm_kept.specs.declared.changes.Held.TheVariants.{Own, Shared}

abbrev pub list_held : Held → List Changed
list_held (Own list) = list
list_held (Shared pointer) = arc_value pointer
