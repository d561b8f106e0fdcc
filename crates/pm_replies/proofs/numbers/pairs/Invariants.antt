use Rattle.std.proofs.Common.{◌≡◌, ◌++◌, drop}
use Rattle.pm_replies.specs.Numbered.{pairs_from}
use Rattle.pm_replies.proofs.numbers.pairs.Given as goal

abbrev pub invariant-loop-i : goal.invariant-loop-i
invariant-loop-i l = l.pairs ++ pairs_from l.i (drop l.i l.list) ≡ pairs_from 0 l.list
