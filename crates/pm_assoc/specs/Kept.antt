-- What contracts see of the table, and what it keeps.
use Rattle.std.specs.Prelude.{◌≡◌, length}
use Rattle.pm_model.specs.Decision.{associations_of}
use Rattle.pm_assoc.specs.Grantees.{AreGrantees}
use Rattle.pm_assoc.specs.Holders.{TellsHolders}
use Rattle.pm_assoc.specs.Shown.{Shown}
use Rattle.pm_assoc.specs.declared.table.Assoc.TheInside.{Inside}

abbrev pub shown : Inside → Shown
shown t = record { grantees = t.grantees.items; alone = t.grantees.alone }

pub record IsKept (t : Inside) : Type 0 where
  pub ordered : AreGrantees 0 t.grantees.items
  pub counted : t.count ≡ length (associations_of t.grantees.items)
  pub holders : TellsHolders t.holders t.grantees.items
