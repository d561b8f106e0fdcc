use Rattle.pm_policy.proofs.Turns.{acyclic_exactly}
use Rattle.pm_policy.proofs.laws.acyclic_exactly.Goals as goal

pub returns : goal.returns
returns c = acyclic_exactly
