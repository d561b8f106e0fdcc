use Rattle.std.proofs.Common.{◌≡◌, filter, take}
use Rattle.pm_model.specs.RightSet.{bit_named}
use Rattle.pm_policy.specs.PolicyOf.{is_bit_in}
use Rattle.pm_drawing.proofs.rights.names_of.Given as goal

abbrev pub invariant-loop-bit : goal.invariant-loop-bit
invariant-loop-bit l = l.list ≡ filter (λ name. is_bit_in l.set (bit_named l.rights name)) (take l.bit l.rights)
