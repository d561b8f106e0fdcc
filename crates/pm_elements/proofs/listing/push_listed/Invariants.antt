-- What the slots that are left list makes the whole.
use Rattle.std.proofs.Common.{◌≡◌, ◌+◌, ◌++◌, drop}
use Rattle.pm_elements.specs.Numbers.{numbers_from}
use Rattle.pm_elements.proofs.listing.push_listed.Given as goal

abbrev pub invariant-loop-n : goal.invariant-loop-n
invariant-loop-n l = l.list ++ numbers_from l.which (l.first + l.n) (drop l.n l.slots) ≡ l.fn.list ++ numbers_from l.which l.first l.slots
