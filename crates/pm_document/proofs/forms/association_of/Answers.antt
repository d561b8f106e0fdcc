use Rattle.std.proofs.Common.{arith, ltb-true, refl}
use Rattle.std.proofs.lemmas.Bool.{ltb-false}
use Rattle.pm_document.proofs.Lengths.{three-fewer, three-more}
use Rattle.pm_document.proofs.forms.association_of.Goals as goal
use Rattle.pm_document.proofs.forms.association_of.Goals.{in_default-via-then-items-lt3, in_default-via-else-items-lt3+else-items-lt4}

pub returns-in_default : goal.returns-in_default
returns-in_default c = elim c.in_default.branch [
  | in_default-via-then-items-lt3 w ↦ rw (three-fewer c.args.items.now (omega (arith, ltb-true))) refl
  | in_default-via-else-items-lt3+else-items-lt4 w ↦ rw (three-more c.args.items.now (omega (arith, ltb-false))) refl
]
