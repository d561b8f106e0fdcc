-- What the slots that are left list makes the whole.
use Rattle.std.proofs.Common.{◌≡◌, ◌≤◌, ◌-◌, ◌++◌, drop, length}
use Rattle.pm_elements.specs.Numbers.{numbers_from}
use Rattle.pm_elements.proofs.listing.list_numbers.Given as goal

abbrev pub invariant-loop-from : goal.invariant-loop-from
invariant-loop-from l = record {
  left : l.list ++ numbers_from l.which l.from (drop l.from l.slots.items) ≡ numbers_from l.which 0 l.slots.items;
  within : l.from ≤ length l.slots.items;
}

abbrev pub decreases-loop-from : goal.decreases-loop-from
decreases-loop-from l = length l.slots.items - l.from
