-- What is left is what the grants that are left leave of it.
use Rattle.std.proofs.Common.{◌≡◌, All, length}
use Rattle.std.specs.List.{list_any}
use Rattle.pm_model.specs.declared.rights.Grant.{Grant}
use Rattle.pm_decide.specs.Gives.{gives, some_gives}
use Rattle.pm_decide.specs.Live.{IsLive}
use Rattle.pm_decide.specs.Unmet.{AreClasses}
use Rattle.pm_decide.proofs.Unmet.{IsLeaving}
use Rattle.pm_decide.proofs.classes.left_by_grants.Given as goal

abbrev pub invariant-loop-left : goal.invariant-loop-left
invariant-loop-left g l =
    let before = g.R.Reach.relation l.fn.reach in
    record {
      same : g.R.Reach.relation l.reach ≡ before;
      classes : AreClasses before l.classes l.left;
      places : All (λ (h : Grant). IsLive before h.at) l.rest;
      leaving : IsLeaving l.classes (λ pc. list_any (gives before.below l.right l.element pc) l.rest)
          (λ pc. some_gives before.below l.right l.element pc l.grantee) l.unmet l.left;
    }

abbrev pub decreases-loop-left : goal.decreases-loop-left
decreases-loop-left g l = length l.rest
