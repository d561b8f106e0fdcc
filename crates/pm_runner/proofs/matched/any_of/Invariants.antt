-- The answer is that of the obligations that are left.
use Rattle.std.proofs.Common.{◌≡◌, ◌-◌, drop, length}
use Rattle.std.specs.List.{list_any}
use Rattle.pm_runner.specs.Standing.{is_match}
use Rattle.pm_runner.proofs.matched.any_of.Given as goal

abbrev pub invariant-loop-begin : goal.invariant-loop-begin
invariant-loop-begin g l =
    let before = g.R.Reach.relation l.fn.reach in
    record {
      same : g.R.Reach.relation l.reach ≡ before;
      rest : list_any (is_match before.below l.event) l.obligations.items
          ≡ list_any (is_match before.below l.event) (drop l.begin l.obligations.items);
    }

abbrev pub decreases-loop-begin : goal.decreases-loop-begin
decreases-loop-begin g l = length l.obligations.items - l.begin
