-- The answer is that of the places that are left.
use Rattle.std.proofs.Common.{◌≡◌, drop}
use Rattle.std.specs.List.{list_all}
use Rattle.pm_decide.proofs.prohibitions.in_each.Given as goal

abbrev pub invariant-loop-place : goal.invariant-loop-place
invariant-loop-place g l =
    let before = g.R.Reach.relation l.fn.reach in
    record {
      same : g.R.Reach.relation l.reach ≡ before;
      rest : list_all (before.below l.element) l.places ≡ list_all (before.below l.element) (drop l.place-index l.places);
    }
