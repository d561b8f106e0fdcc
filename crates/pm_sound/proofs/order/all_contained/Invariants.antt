use Rattle.pm_sound.proofs.Tied.{HaveAnyTo}
use Rattle.pm_sound.proofs.order.all_contained.Given as goal

abbrev pub invariant-loop-place : goal.invariant-loop-place
invariant-loop-place l = HaveAnyTo l.place l.elements l.above
