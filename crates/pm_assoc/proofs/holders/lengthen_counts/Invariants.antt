-- The counts behind those that there were are all the same.
use Rattle.std.proofs.Common.{◌≡◌, ◌≤◌, ◌<◌, ◌-◌, ℕ, max, vec_len, vec_capacity, slice_index}
use Rattle.pm_assoc.proofs.holders.lengthen_counts.Given as goal

abbrev pub invariant-loop-counts : goal.invariant-loop-counts
invariant-loop-counts l = record {
  room : l.n ≤ vec_capacity l.counts;
  least : vec_len l.fn.counts ≤ vec_len l.counts;
  long : max (vec_len l.counts) l.n ≡ max (vec_len l.fn.counts) l.n;
  ahead : (k : ℕ) → k < vec_len l.fn.counts → slice_index l.counts.items k ≡ slice_index l.fn.counts.items k;
  behind : (k : ℕ) → vec_len l.fn.counts ≤ k → k < vec_len l.counts → slice_index l.counts.items k ≡ l.count;
}

abbrev pub decreases-loop-counts : goal.decreases-loop-counts
decreases-loop-counts l = l.n - vec_len l.counts
