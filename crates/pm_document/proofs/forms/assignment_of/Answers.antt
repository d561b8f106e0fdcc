use Rattle.std.proofs.Common.{arith, ltb-true, refl}
use Rattle.std.proofs.lemmas.Bool.{ltb-false}
use Rattle.pm_document.proofs.Lengths.{two-fewer, two-more}
use Rattle.pm_document.proofs.forms.assignment_of.Goals as goal
use Rattle.pm_document.proofs.forms.assignment_of.Goals.{in_default-via-then-items-lt2, in_default-via-else-items-lt2+else-items-lt3}

pub returns-in_default : goal.returns-in_default
returns-in_default c = elim c.in_default.branch [
  | in_default-via-then-items-lt2 w ↦ rw (two-fewer c.args.items.now (omega (arith, ltb-true))) refl
  | in_default-via-else-items-lt2+else-items-lt3 w ↦ rw (two-more c.args.items.now (omega (arith, ltb-false))) refl
]
