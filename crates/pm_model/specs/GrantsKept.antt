-- What a list of associations keeps: the words, where there are any, tell what they are on.
use Rattle.std.specs.Prelude.{ℕ, ◌<◌, List, length}
use Rattle.pm_model.specs.Grants.{TellPlaces}
use Rattle.pm_model.specs.declared.rights.Grant.{Grant}
use Rattle.pm_model.specs.declared.grants.GrantList.TheInside.{Inside}

abbrev pub grants_of : Inside → List Grant
grants_of list = list.items.items

pub record IsTold (list : Inside) : Type 0 where
  pub told : 0 < length list.places.items → TellPlaces list.places.items list.items.items
