use Rattle.std.proofs.Common.{take}
use Rattle.pm_sound.proofs.Defining.{AreSoFar}
use Rattle.pm_sound.proofs.rights.defined.Given as goal

abbrev pub invariant-loop-right : goal.invariant-loop-right
invariant-loop-right l = AreSoFar l.names (take l.right-index l.rights)
