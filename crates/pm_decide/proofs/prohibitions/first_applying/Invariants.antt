-- The answer is that of the prohibitions that are left.
use Rattle.std.proofs.Common.{◌≡◌, drop, ◌≤◌, ◌-◌, length}
use Rattle.std.specs.List.{position_from}
use Rattle.pm_model.specs.Decision.{forbids}
use Rattle.pm_decide.proofs.prohibitions.first_applying.Given as goal

abbrev pub invariant-loop-start : goal.invariant-loop-start
invariant-loop-start g l =
    let before = g.R.Reach.relation l.fn.reach in
    let all = g.B.Bars.prohibitions l.bars in
    let forbids_it = forbids before.below l.user l.process l.right l.element in
    record {
      within : l.start ≤ length all;
      same : g.R.Reach.relation l.reach ≡ before;
      rest : position_from forbids_it 0 all ≡ position_from forbids_it l.start (drop l.start all);
    }

abbrev pub decreases-loop-start : goal.decreases-loop-start
decreases-loop-start g l = l.count - l.start
