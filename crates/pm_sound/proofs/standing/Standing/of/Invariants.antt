use Rattle.std.proofs.Common.{◌≡◌, take}
use Rattle.pm_policy.specs.Sound.{AreOnceCalled}
use Rattle.pm_sound.proofs.standing.Standing.of.Given as goal

abbrev pub invariant-loop-element : goal.invariant-loop-element
invariant-loop-element l = (l.all ≡ take l.element-index l.elements) × AreOnceCalled (take l.element-index l.elements)
