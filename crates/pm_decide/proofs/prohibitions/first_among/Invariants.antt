-- The answer is that of the prohibitions that are left.
use Rattle.std.proofs.Common.{◌≡◌, drop}
use Rattle.std.specs.List.{position_from}
use Rattle.pm_model.specs.Decision.{forbids}
use Rattle.pm_decide.proofs.prohibitions.first_among.Given as goal

abbrev pub invariant-loop-i : goal.invariant-loop-i
invariant-loop-i g l =
    let before = g.R.Reach.relation l.fn.reach in
    let all = l.bars in
    let forbids_it = forbids before.below l.user l.process l.right l.element in
    record {
      same : g.R.Reach.relation l.reach ≡ before;
      rest : position_from forbids_it 0 all ≡ position_from forbids_it l.i (drop l.i all);
    }
