-- The rights so far that the classes that are left leave, are those that all leave.
use Rattle.std.proofs.Common.{◌≡◌, drop}
use Rattle.pm_model.specs.Decision.{privilege, associations_of}
use Rattle.pm_decide.proofs.RightSets.{IsMeeting}
use Rattle.pm_decide.proofs.rights.privileges_of.Given as goal

abbrev pub invariant-loop-i : goal.invariant-loop-i
invariant-loop-i g l =
    let before = g.R.Reach.relation l.fn.reach in
    let associations = associations_of (g.G.Grants.grantees l.grants) in
    record {
      same : g.R.Reach.relation l.reach ≡ before;
      meeting : IsMeeting l.rights
          (λ r. privilege before.below associations (drop l.i l.classes) l.user r l.element)
          (λ r. privilege before.below associations l.classes l.user r l.element);
    }
