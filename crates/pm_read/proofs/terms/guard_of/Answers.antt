use Rattle.std.proofs.Common.{arith, ltb-true, sym}
use Rattle.std.proofs.lemmas.Bool.{ltb-false}
use Rattle.pm_read.proofs.Guards.{fewer, more}
use Rattle.pm_read.proofs.terms.guard_of.Goals as goal
use Rattle.pm_read.proofs.terms.guard_of.Goals.{in_default-via-then-items-lt3, in_default-via-else-items-lt3+else-items-lt4}

pub returns-in_default : goal.returns-in_default
returns-in_default c = elim c.in_default.branch [
  | in_default-via-then-items-lt3 w ↦ sym (fewer c.args.items.now (omega (arith, ltb-true)))
  | in_default-via-else-items-lt3+else-items-lt4 w ↦ sym (more c.args.items.now (omega (arith, ltb-false)))
]
