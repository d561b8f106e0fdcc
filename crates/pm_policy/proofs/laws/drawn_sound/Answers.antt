use Rattle.pm_policy.proofs.Drawn.{drawn-sound}
use Rattle.pm_policy.proofs.laws.drawn_sound.Goals as goal

pub returns : goal.returns
returns c = drawn-sound
