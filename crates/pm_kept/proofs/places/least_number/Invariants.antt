-- The numbers so far are those of the places.
use Rattle.std.proofs.Common.{◌≡◌, drop}
use Rattle.pm_model.specs.KeptReviews.{unkept, unkept_from}
use Rattle.pm_kept.proofs.places.least_number.Given as goal

abbrev pub invariant-loop-i : goal.invariant-loop-i
invariant-loop-i l = unkept l.items ≡ unkept_from l.i (drop l.i l.items)
