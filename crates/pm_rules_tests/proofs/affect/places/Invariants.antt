use Rattle.std.proofs.Common.{◌≡◌, take}
use Rattle.pm_rules_tests.proofs.affect.places.Given as goal

abbrev pub invariant-loop-number : goal.invariant-loop-number
invariant-loop-number l = l.list ≡ take l.number-index l.numbers
