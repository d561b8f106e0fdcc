-- What is left rises exactly where all do.
use Rattle.std.proofs.Common.{◌≡◌, ◌≤◌, drop}
use Rattle.pm_affect.specs.Puts.{elements_of, rises}
use Rattle.pm_affect.proofs.merge.rises.Given as goal

abbrev pub invariant-loop-n : goal.invariant-loop-n
invariant-loop-n l = record {
  rest : rises l.low (elements_of (drop l.n l.row)) ≡ rises 0 (elements_of l.row);
  few : l.low ≤ 4294967296;
}
