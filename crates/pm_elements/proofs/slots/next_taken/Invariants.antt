-- No number so far is live.
use Rattle.std.proofs.Common.{◌≡◌}
use Rattle.pm_elements.specs.Checks.{least_from}
use Rattle.pm_elements.specs.Slots.{shown}
use Rattle.pm_elements.proofs.slots.next_taken.Given as goal

abbrev pub invariant-loop-n : goal.invariant-loop-n
invariant-loop-n l = least_from (shown l.slots.items) l.fn.from ≡ least_from (shown l.slots.items) l.n
