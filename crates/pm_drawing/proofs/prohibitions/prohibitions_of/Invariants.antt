use Rattle.std.proofs.Common.{◌≡◌, filter, map, take}
use Rattle.pm_policy.specs.PolicyOf.{policy_prohibition}
use Rattle.pm_drawing.specs.Gathered.{is_shown}
use Rattle.pm_drawing.proofs.prohibitions.prohibitions_of.Given as goal

abbrev pub invariant-loop-i : goal.invariant-loop-i
invariant-loop-i l = l.list ≡ map (policy_prohibition l.fn.graph) (filter is_shown (take l.i l.fn.graph.prohibitions))
