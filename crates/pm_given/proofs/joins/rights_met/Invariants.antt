-- The rights so far, with those at the elements of the words that are left, are those at all.
use Rattle.std.proofs.Common.{◌≡◌, List, drop}
use Rattle.std.specs.List.{list_any}
use Rattle.pm_model.specs.declared.rights.Grant.{Grant}
use Rattle.pm_decide.specs.Gives.{gives}
use Rattle.pm_decide.proofs.RightSets.{IsJoining}
use Rattle.pm_given.specs.Told.{AreTold}
use Rattle.pm_given.proofs.Above.{gives_among}
use Rattle.pm_given.proofs.joins.rights_met.Given as goal

abbrev pub invariant-loop-i : goal.invariant-loop-i
invariant-loop-i g l =
    let before = g.R.Reach.relation l.fn.reach in
    record {
      same : g.R.Reach.relation l.reach ≡ before;
      joining : (L : List Grant) → AreTold L l.own l.marks → IsJoining l.rights
          (λ r. list_any (gives_among before.below (drop l.i l.places) r l.element l.class) L) (λ r. list_any (gives before.below r l.element l.class) L);
    }
