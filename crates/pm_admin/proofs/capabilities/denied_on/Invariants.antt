-- The answer is that of the places that are left.
use Rattle.pm_admin.proofs.FirstDenied.{IsLeft}
use Rattle.pm_admin.proofs.capabilities.denied_on.Given as goal

abbrev pub invariant-loop-i : goal.invariant-loop-i
invariant-loop-i l = IsLeft l.fn.graph l.fn.user l.fn.process l.fn.right l.places l.i
