use Rattle.std.proofs.Common.{◌≡◌, take}
use Rattle.pm_model.proofs.actions.copied.Given as goal

abbrev pub invariant-loop-action : goal.invariant-loop-action
invariant-loop-action l = l.same ≡ take l.action-index l.actions
