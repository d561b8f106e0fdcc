-- The rights so far that the classes that are left leave, are those that all leave.
use Rattle.std.proofs.Common.{◌≡◌, List, drop}
use Rattle.std.specs.List.{list_any, list_all}
use Rattle.pm_model.specs.Decision.{classes_of}
use Rattle.pm_model.specs.declared.rights.Grant.{Grant}
use Rattle.pm_decide.specs.Gives.{gives}
use Rattle.pm_decide.proofs.RightSets.{IsMeeting}
use Rattle.pm_given.specs.Told.{AreTold}
use Rattle.pm_given.proofs.joins.rights_held.Given as goal

abbrev pub invariant-loop-i : goal.invariant-loop-i
invariant-loop-i g l =
    let before = g.R.Reach.relation l.fn.reach in
    record {
      same : g.R.Reach.relation l.reach ≡ before;
      meeting : (L : List Grant) → AreTold L l.own l.marks → IsMeeting l.rights
          (λ r. list_all (λ c. list_any (gives before.below r l.element c) L) (classes_of before.below (drop l.i l.classes) l.element))
          (λ r. list_all (λ c. list_any (gives before.below r l.element c) L) (classes_of before.below l.classes l.element));
    }
