-- The numbers so far are not above it.
use Rattle.pm_state.proofs.ClassPlaces.{IsPast}
use Rattle.pm_state.proofs.classes.place_of.Given as goal

abbrev pub invariant-loop-i : goal.invariant-loop-i
invariant-loop-i l = IsPast l.id l.classes l.i
