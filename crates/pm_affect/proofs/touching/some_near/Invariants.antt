-- The answer is that of the lists that are left.
use Rattle.std.proofs.Common.{◌≡◌, drop}
use Rattle.std.specs.List.{list_any}
use Rattle.pm_affect.specs.Lists.{subjects}
use Rattle.pm_affect.specs.Rows.{ArePassed, near_on}
use Rattle.pm_affect.proofs.touching.some_near.Given as goal

abbrev pub invariant-loop-i : goal.invariant-loop-i
invariant-loop-i g l =
    let test = near_on l.side (g.R.Reach.relation l.fn.reach).below l.region in
    record {
      rest : list_any test (subjects l.items) ≡ list_any test (drop l.i (subjects l.items));
      passed : ArePassed test (g.R.Reach.relation l.fn.reach) l.asked;
      same : g.R.Reach.relation l.reach ≡ g.R.Reach.relation l.fn.reach;
    }
