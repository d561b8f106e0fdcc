-- The rights so far, with those of the grants that are left, are those of all.
use Rattle.std.proofs.Common.{◌≡◌, drop}
use Rattle.std.specs.List.{list_any}
use Rattle.pm_decide.specs.Gives.{gives}
use Rattle.pm_decide.proofs.RightSets.{IsJoining}
use Rattle.pm_decide.proofs.rights.rights_of_grants.Given as goal

abbrev pub invariant-loop-grant : goal.invariant-loop-grant
invariant-loop-grant g l =
    let before = g.R.Reach.relation l.fn.reach in
    record {
      same : g.R.Reach.relation l.reach ≡ before;
      joining : IsJoining l.rights
          (λ r. list_any (gives before.below r l.element l.class) (drop l.grant-index l.grantee.grants))
          (λ r. list_any (gives before.below r l.element l.class) l.grantee.grants);
    }
