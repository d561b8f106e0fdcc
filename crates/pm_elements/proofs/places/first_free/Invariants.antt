-- The slots so far are taken.
use Rattle.std.proofs.Common.{◌≡◌, ◌≤◌, ◌+◌, ◌-◌, drop, length}
use Rattle.pm_elements.specs.Slots.{first_free}
use Rattle.pm_elements.proofs.places.first_free.Given as goal

abbrev pub invariant-loop-before : goal.invariant-loop-before
invariant-loop-before l = record {
  taken : first_free l.slots.items ≡ l.before + first_free (drop l.before l.slots.items);
  within : l.before ≤ length l.slots.items;
}

abbrev pub decreases-loop-before : goal.decreases-loop-before
decreases-loop-before l = length l.slots.items - l.before
