-- The numbers below z were passed, and z is the next one.
use Rattle.std.proofs.Common.{◌≡◌, ◌<◌, ◌≤◌, ◌+◌, ◌-◌, ◌/◌, ℕ, true}
use Rattle.pm_reach.specs.Words.{in_row}
use Rattle.pm_reach.specs.Rows.{below, most}
use Rattle.pm_reach.proofs.Readying.{Readied}
use Rattle.pm_reach.proofs.ready.ready_all.Given as goal

abbrev pub invariant-loop-z : goal.invariant-loop-z
invariant-loop-z l = record {
  to : l.z ≤ most;
  there : l.z < l.inside.span.high → in_row l.inside.row.items l.z ≡ true;
  order : l.covered ≤ l.z / 64 + 1;
  last : (k q : ℕ) → k + 1 ≡ l.covered → in_row l.other q ≡ true → below l.unions.rows k q ≡ true;
  readied : Readied l.inside.of l.other l.fn.table.rows l.table l.unions.rows l.z;
}

abbrev pub decreases-loop-z : goal.decreases-loop-z
decreases-loop-z l = l.inside.span.high - l.z
