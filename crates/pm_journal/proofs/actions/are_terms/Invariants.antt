use Rattle.std.proofs.Common.{◌≡◌, take}
use Rattle.pm_model.specs.Formed.{Each}
use Rattle.pm_print.specs.Askable.{IsTerm}
use Rattle.pm_journal.proofs.actions.are_terms.Given as goal

abbrev pub invariant-loop-i : goal.invariant-loop-i
invariant-loop-i l = Each IsTerm (take l.i l.terms)
