-- None matches of the obligations so far.
use Rattle.std.proofs.Common.{◌≡◌, false, take}
use Rattle.std.specs.List.{list_any}
use Rattle.pm_runner.specs.Standing.{is_match}
use Rattle.pm_runner.proofs.matched.any_among.Given as goal

abbrev pub invariant-loop-item : goal.invariant-loop-item
invariant-loop-item g l =
    let before = g.R.Reach.relation l.fn.reach in
    record {
      same : g.R.Reach.relation l.reach ≡ before;
      none : list_any (is_match before.below l.event) (take l.item-index l.items) ≡ false;
    }
