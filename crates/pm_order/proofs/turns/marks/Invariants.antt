use Rattle.std.proofs.Common.{◌≡◌, ◌++◌, true, false, replicate}
use Rattle.pm_order.proofs.turns.marks.Given as goal

abbrev pub invariant-loop : goal.invariant-loop
invariant-loop l = l.marks.items ≡ replicate l.made true ++ replicate l.counter false
