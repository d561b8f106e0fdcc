use Rattle.pm_policy_laws.proofs.Sound.{policy_is_sound}
use Rattle.pm_policy_laws.proofs.policy_is_sound.Goals as goal

pub returns : goal.returns
returns c = policy_is_sound
