use Rattle.std.proofs.Common.{◌≡◌, map, take}
use Rattle.pm_order.specs.Ranked.{turn_at}
use Rattle.pm_order.proofs.creation.turns_at.Given as goal

abbrev pub invariant-loop-place : goal.invariant-loop-place
invariant-loop-place l = l.turns.items ≡ map (turn_at l.elements l.above) (take l.place-index l.places)
