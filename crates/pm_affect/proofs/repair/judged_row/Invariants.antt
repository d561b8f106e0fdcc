-- What is left to judge makes the whole; as many were judged as were passed.
use Rattle.std.proofs.Common.{◌≡◌, ◌+◌, ◌++◌, drop}
use Rattle.pm_affect.specs.Puts.{judged_pairs}
use Rattle.pm_affect.proofs.repair.judged_row.Given as goal

abbrev pub invariant-loop-n : goal.invariant-loop-n
invariant-loop-n g l = record {
  row : l.row ++ judged_pairs ((g.J.Judge.judgement l.fn.judge).rights l.user) (drop l.n l.elements) ≡ judged_pairs ((g.J.Judge.judgement l.fn.judge).rights l.user) l.elements;
  asked : g.J.Judge.asked l.judge ≡ g.J.Judge.asked l.fn.judge + l.n;
  same : g.J.Judge.judgement l.judge ≡ g.J.Judge.judgement l.fn.judge;
}
