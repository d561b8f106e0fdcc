use Rattle.std.proofs.Common.{◌≡◌, map, take}
use Rattle.pm_model.specs.ResponseForms.{as_set}
use Rattle.pm_read.proofs.responses.as_sets.Given as goal

abbrev pub invariant-loop-action : goal.invariant-loop-action
invariant-loop-action l = l.sets ≡ map as_set (take l.action-index l.actions)
