use Rattle.std.proofs.Common.{◌≡◌, take}
use Rattle.pm_model.specs.Formed.{Each}
use Rattle.pm_print.specs.Askable.{IsGuard}
use Rattle.pm_journal.proofs.actions.are_guards.Given as goal

abbrev pub invariant-loop-i : goal.invariant-loop-i
invariant-loop-i l = Each IsGuard (take l.i l.guards)
