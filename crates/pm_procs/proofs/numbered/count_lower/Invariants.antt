use Rattle.std.proofs.Common.{◌≡◌, ℕ, ◌-◌, ◌<◌, ◌≤◌, length, Some, slice_get}
use Rattle.pm_procs.proofs.numbered.count_lower.Given as goal

abbrev pub invariant-loop-low : goal.invariant-loop-low
invariant-loop-low g l = record {
  between : l.low ≤ l.high;
  within : l.high ≤ length l.items.items;
  lower : (k : ℕ) (x : g.row.T.Denot) → k < l.low → slice_get l.items.items k ≡ Some x → g.T.Numbered.number x < l.number;
  others : (k : ℕ) (x : g.row.T.Denot) → l.high ≤ k → slice_get l.items.items k ≡ Some x → l.number ≤ g.T.Numbered.number x;
}

abbrev pub decreases-loop-low : goal.decreases-loop-low
decreases-loop-low g l = l.high - l.low
