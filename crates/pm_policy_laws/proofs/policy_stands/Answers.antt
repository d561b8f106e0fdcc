use Rattle.pm_policy_laws.proofs.Stands.{policy_stands}
use Rattle.pm_policy_laws.proofs.policy_stands.Goals as goal

pub returns : goal.returns
returns c = policy_stands
