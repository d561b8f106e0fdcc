-- The pages before k were looked at.
use Rattle.std.proofs.Common.{◌≡◌, length}
use Rattle.pm_reach.specs.Words.{in_row}
use Rattle.pm_reach.proofs.Finding.{Found}
use Rattle.pm_reach.proofs.inside.mark_inside.Given as goal

abbrev pub invariant-loop-k : goal.invariant-loop-k
invariant-loop-k l = record {
  long : length l.row ≡ length l.fn.row;
  found : Found l.table.rows l.x l.k (in_row l.row);
}
