use Rattle.std.proofs.Common.{◌≡◌, take}
use Rattle.pm_model.specs.Forms.{distinct}
use Rattle.pm_journal.proofs.askable.is_distinct.Given as goal

abbrev pub invariant-loop-i : goal.invariant-loop-i
invariant-loop-i l = distinct (take l.i l.names) ≡ take l.i l.names
