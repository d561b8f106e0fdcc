-- The word has the classes before the place i that contain the element.
use Rattle.std.proofs.Common.{◌≡◌}
use Rattle.pm_decide.proofs.Unmet.{AreThoseBefore}
use Rattle.pm_decide.proofs.classes.containing.Given as goal

abbrev pub invariant-loop-i : goal.invariant-loop-i
invariant-loop-i g l =
    let before = g.R.Reach.relation l.fn.reach in
    record {
      same : g.R.Reach.relation l.reach ≡ before;
      found : AreThoseBefore (before.below l.element) l.classes l.i l.word;
    }
