-- The rows of the containers so far are in the row.
use Rattle.std.proofs.Common.{◌≡◌, ℕ, length}
use Rattle.pm_reach.specs.Words.{in_row}
use Rattle.pm_reach.proofs.Gathering.{gathered}
use Rattle.pm_reach.proofs.changes.gather.Given as goal

abbrev pub invariant-loop-i : goal.invariant-loop-i
invariant-loop-i g l = record {
  long : length l.row ≡ length l.fn.row;
  held : (q : ℕ) → in_row l.row q ≡ gathered (g.P.Parents.assigned l.parents) l.z l.i q;
}
