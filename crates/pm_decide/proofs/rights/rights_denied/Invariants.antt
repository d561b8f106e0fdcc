-- The rights so far, with those of the prohibitions that are left, are those of all.
use Rattle.std.proofs.Common.{◌≡◌, drop, None, ◌≤◌, ◌-◌, length}
use Rattle.std.specs.List.{list_any}
use Rattle.pm_model.specs.Decision.{forbids}
use Rattle.pm_decide.proofs.RightSets.{IsJoining}
use Rattle.pm_decide.proofs.rights.rights_denied.Given as goal

abbrev pub invariant-loop-start : goal.invariant-loop-start
invariant-loop-start g l =
    let before = g.R.Reach.relation l.fn.reach in
    let all = g.B.Bars.prohibitions l.bars in
    record {
      within : l.start ≤ length all;
      same : g.R.Reach.relation l.reach ≡ before;
      joining : IsJoining l.rights
          (λ r. list_any (forbids before.below l.user None r l.element) (drop l.start all))
          (λ r. list_any (forbids before.below l.user None r l.element) all);
    }

abbrev pub decreases-loop-start : goal.decreases-loop-start
decreases-loop-start g l = l.count - l.start
