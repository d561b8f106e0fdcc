-- The places so far are those of the names so far.
use Rattle.pm_admin.proofs.Places.{AreFound}
use Rattle.pm_admin.proofs.prohibiting.look_up_all.Given as goal

abbrev pub invariant-loop-i : goal.invariant-loop-i
invariant-loop-i l = AreFound l.fn.graph l.fn.names l.i l.places
