use Rattle.std.proofs.Common.{arith}
use Rattle.pm_read.proofs.Distinct.{next_seen, next_new}
use Rattle.pm_document.proofs.forms.distinct.Goals as goal
use Rattle.pm_document.proofs.forms.distinct.Goals.{then-not-contains+in_ok-push, else-not-contains}

pub loop-name-preserved : goal.loop-name-preserved
loop-name-preserved c = elim c.if-not-contains.branch [
  | then-not-contains+in_ok-push w ↦ grind (arith, next_new)
  | else-not-contains w ↦ grind (arith, next_seen)
]
