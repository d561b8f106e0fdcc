use Rattle.std.proofs.Common.{◌≡◌, take}
use Rattle.pm_rules_tests.proofs.review.list_of.Given as goal

abbrev pub invariant-loop-pair : goal.invariant-loop-pair
invariant-loop-pair l = l.list ≡ take l.pair-index l.pairs
