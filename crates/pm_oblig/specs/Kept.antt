-- What is true of the list of obligations and of what is kept beside it.
use Rattle.std.specs.Prelude.{◌≤◌, length}
use Rattle.pm_model.specs.Obligations.{max_obligations}
use Rattle.pm_oblig.specs.declared.table.Obligations.TheInside.{Inside}
use Rattle.pm_oblig.specs.Awaited.{AreKnown}

pub record IsKept (t : Inside) : Type 0 where
  pub few : length t.items.items ≤ max_obligations
  pub known : AreKnown t.items.items t.known.items
