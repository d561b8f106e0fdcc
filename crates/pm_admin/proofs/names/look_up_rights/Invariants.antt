use Rattle.pm_admin.proofs.RightNames.{LookedUp}
use Rattle.pm_admin.proofs.names.look_up_rights.Given as goal

abbrev pub invariant-loop-i : goal.invariant-loop-i
invariant-loop-i l = LookedUp l.fn.graph l.fn.names l.i l.found

abbrev pub decreases-loop-i : goal.decreases-loop-i
decreases-loop-i l = l.i
