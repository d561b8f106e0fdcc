use Rattle.std.proofs.Common.{◌≡◌, ◌≤◌, ◌^◌, ◌*◌, take}
use Rattle.pm_model.specs.Actions.{names_in_actions}
use Rattle.pm_model.proofs.counting.names_in_actions.Given as goal

abbrev pub invariant-loop-action : goal.invariant-loop-action
invariant-loop-action l = l.names ≡ names_in_actions (take l.action-index l.actions) × l.names ≤ l.action-index * 2 ^ 71
