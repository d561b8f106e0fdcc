-- What is left to push makes the whole.
use Rattle.std.proofs.Common.{◌≡◌, ◌++◌, drop}
use Rattle.pm_affect.proofs.merge.push_rest.Given as goal

abbrev pub invariant-loop-k : goal.invariant-loop-k
invariant-loop-k l = l.all ++ drop l.k l.pairs ≡ l.fn.all ++ drop l.i l.pairs
