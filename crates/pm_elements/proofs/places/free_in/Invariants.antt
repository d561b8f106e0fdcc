-- The slots so far are taken.
use Rattle.std.proofs.Common.{◌≡◌, ◌+◌, drop}
use Rattle.pm_elements.specs.Slots.{first_free}
use Rattle.pm_elements.proofs.places.free_in.Given as goal

abbrev pub invariant-loop-n : goal.invariant-loop-n
invariant-loop-n l = first_free l.slots ≡ l.n + first_free (drop l.n l.slots)
