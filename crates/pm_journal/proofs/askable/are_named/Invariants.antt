use Rattle.std.proofs.Common.{◌≡◌, take}
use Rattle.pm_model.specs.Formed.{Each}
use Rattle.pm_print.specs.Askable.{IsNamed}
use Rattle.pm_journal.proofs.askable.are_named.Given as goal

abbrev pub invariant-loop-i : goal.invariant-loop-i
invariant-loop-i l = Each IsNamed (take l.i l.names)
