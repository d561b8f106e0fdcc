use Rattle.std.proofs.Common.{◌≡◌, take}
use Rattle.pm_model.specs.Formed.{Each}
use Rattle.pm_print.specs.Askable.{AreRights, IsAction}
use Rattle.pm_journal.proofs.actions.each_action.Given as goal

abbrev pub invariant-loop-i : goal.invariant-loop-i
invariant-loop-i l = Each (IsAction AreRights) (take l.i l.actions)
