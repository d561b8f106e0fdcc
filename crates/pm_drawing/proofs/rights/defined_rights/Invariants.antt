use Rattle.std.proofs.Common.{◌≡◌, ◌≤◌, drop, take}
use Rattle.pm_drawing.proofs.rights.defined_rights.Given as goal

abbrev pub invariant-loop-bit : goal.invariant-loop-bit
invariant-loop-bit l = (17 ≤ l.bit) × (l.list ≡ drop 17 (take l.bit l.rights))
