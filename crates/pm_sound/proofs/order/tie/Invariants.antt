use Rattle.std.proofs.Common.{◌≡◌, ◌++◌, List, length, take}
use Rattle.pm_model.specs.Formed.{Each}
use Rattle.pm_order.specs.Ranked.{containers}
use Rattle.pm_policy.specs.Sound.{FitAssigned}
use Rattle.pm_policy.specs.declared.policy.DocAssignment.{DocAssignment}
use Rattle.pm_sound.proofs.order.tie.Given as goal

abbrev pub invariant-loop-pair : goal.invariant-loop-pair
invariant-loop-pair l =
    (length l.above ≡ length l.standing)
    × Each (FitAssigned l.standing) (take l.pair-index l.pairs)
    × ((before : List DocAssignment) → l.fn.above ≡ containers l.standing before →
    l.above ≡ containers l.standing (before ++ take l.pair-index l.pairs))
