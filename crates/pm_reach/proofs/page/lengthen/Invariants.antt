-- Places with nothing were added.
use Rattle.std.proofs.Common.{◌≡◌, ◌≤◌, ◌-◌, ℕ, vec_len, vec_capacity}
use Rattle.pm_reach.specs.Rows.{option_at}
use Rattle.pm_reach.proofs.page.lengthen.Given as goal

abbrev pub invariant-loop-rows : goal.invariant-loop-rows
invariant-loop-rows l = record {
  room : l.n ≤ vec_capacity l.rows;
  same : (i : ℕ) → option_at l.rows.items i ≡ option_at l.fn.rows.items i;
}

abbrev pub decreases-loop-rows : goal.decreases-loop-rows
decreases-loop-rows l = l.n - vec_len l.rows
