use Rattle.std.proofs.Common.{◌≡◌, ◌<◌, ◌≤◌, ◌-◌, length, map}
use Rattle.pm_pages.specs.Leaves.{held}
use Rattle.pm_pages.specs.Paged.{IsOwn}
use Rattle.pm_pages.proofs.list_row.share_leaves.Given as goal

abbrev pub invariant-loop-k : goal.invariant-loop-k
invariant-loop-k g l = record {
  lists : map held l.leaves.items ≡ map held l.initial.leaves.items;
  within : l.k ≤ length l.leaves.items;
  own : l.k < length l.leaves.items → IsOwn l.leaves l.k;
}

abbrev pub decreases-loop-k : goal.decreases-loop-k
decreases-loop-k g l = length l.leaves.items - l.k
