-- The counts from the first place on and before this one are lowered.
use Rattle.std.proofs.Common.{◌≡◌, ◌≤◌, ◌<◌, ◌+◌, ◌-◌, ℕ, vec_len, slice_index}
use Rattle.pm_assoc.proofs.holders.lower.Given as goal

abbrev pub invariant-loop-k : goal.invariant-loop-k
invariant-loop-k l = record {
  long : vec_len l.counts ≡ vec_len l.fn.counts;
  begun : l.first ≤ l.k;
  ahead : (j : ℕ) → j < l.first → slice_index l.counts.items j ≡ slice_index l.fn.counts.items j;
  done : (j : ℕ) → l.first ≤ j → j < l.k → j < vec_len l.fn.counts → slice_index l.counts.items j + 1 ≡ slice_index l.fn.counts.items j;
  left : (j : ℕ) → l.k ≤ j → slice_index l.counts.items j ≡ slice_index l.fn.counts.items j;
}

abbrev pub decreases-loop-k : goal.decreases-loop-k
decreases-loop-k l = vec_len l.counts - l.k
