use Rattle.std.proofs.Common.{arith}
use Rattle.pm_model.specs.RightSet.{opening_rights}
use Rattle.pm_rights.proofs.names.RightNames.opening.Goals as goal

pub invariant_of-result : goal.invariant_of-result
unfolding opening_rights
invariant_of-result c = rw (c.in_ok-new.ensures.ok, c.in_ok-opening_names.ensures) (omega arith)
