use Rattle.std.proofs.Common.{take}
use Rattle.pm_model.specs.Grants.{TellPlaces}
use Rattle.pm_model.proofs.grants.places_of.Given as goal

abbrev pub invariant-loop-grant : goal.invariant-loop-grant
invariant-loop-grant l = TellPlaces l.places.items (take l.grant-index l.grants)
