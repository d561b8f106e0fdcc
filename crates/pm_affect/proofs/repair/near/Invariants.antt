-- Those that are near so far, and those among the elements that are left.
use Rattle.std.proofs.Common.{◌≡◌, ◌++◌, drop, filter}
use Rattle.pm_affect.specs.Rows.{ArePassed, is_near}
use Rattle.pm_affect.proofs.repair.near.Given as goal

abbrev pub invariant-loop-i : goal.invariant-loop-i
invariant-loop-i g l =
    let test = is_near (g.R.Reach.relation l.fn.reach).below l.region in
    record {
      so_far : l.near ++ filter test (drop l.i l.elements) ≡ filter test l.elements;
      passed : ArePassed test (g.R.Reach.relation l.fn.reach) l.asked;
      same : g.R.Reach.relation l.reach ≡ g.R.Reach.relation l.fn.reach;
    }
