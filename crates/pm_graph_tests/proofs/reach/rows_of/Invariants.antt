-- The elements so far have rows.
use Rattle.std.proofs.Common.{◌≡◌, ℕ, nat_lt}
use Rattle.pm_model.specs.State.{opening_assigned}
use Rattle.pm_reach.specs.Rows.{has}
use Rattle.pm_reach.specs.Changes.{TellContainment}
use Rattle.pm_graph_tests.proofs.reach.rows_of.Given as goal

abbrev pub invariant-loop-x : goal.invariant-loop-x
invariant-loop-x g l = record {
  live : (y : ℕ) → has l.rows.rows y ≡ nat_lt y l.x;
  rows : TellContainment opening_assigned l.rows.rows;
}
