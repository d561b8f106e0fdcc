use Rattle.std.proofs.Common.{◌-◌, ◌<◌, ◌≤◌, length, slice_index}
use Rattle.pm_pages.proofs.places.page_by_halves.Given as goal

abbrev pub invariant-loop-high : goal.invariant-loop-high
invariant-loop-high l = record {
  between : l.low < l.high;
  within : l.high ≤ length l.starts;
  behind : slice_index l.starts l.low ≤ l.i;
  before : l.high < length l.starts → l.i < slice_index l.starts l.high;
}

abbrev pub decreases-loop-high : goal.decreases-loop-high
decreases-loop-high l = l.high - l.low
