-- The answer is that of the guards that are left.
use Rattle.std.proofs.Common.{◌≡◌, drop}
use Rattle.pm_model.specs.Responses.{all_hold}
use Rattle.pm_admin.proofs.guards.all_hold.Given as goal

abbrev pub invariant-loop-guard : goal.invariant-loop-guard
invariant-loop-guard l =
    all_hold l.graph l.names l.fresh l.guards ≡ all_hold l.graph l.names l.fresh (drop l.guard-index l.guards)
