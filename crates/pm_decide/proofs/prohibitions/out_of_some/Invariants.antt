-- The answer is that of the places that are left.
use Rattle.std.proofs.Common.{◌≡◌, drop, not}
use Rattle.std.specs.List.{list_any}
use Rattle.pm_decide.proofs.prohibitions.out_of_some.Given as goal

abbrev pub invariant-loop-place : goal.invariant-loop-place
invariant-loop-place g l =
    let before = g.R.Reach.relation l.fn.reach in
    record {
      same : g.R.Reach.relation l.reach ≡ before;
      rest : list_any (λ a. not (before.below l.element a)) l.places ≡ list_any (λ a. not (before.below l.element a)) (drop l.place-index l.places);
    }
