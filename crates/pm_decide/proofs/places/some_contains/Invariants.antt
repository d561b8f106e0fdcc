-- None of the words so far has a number that contains the element.
use Rattle.std.proofs.Common.{◌≡◌, take}
use Rattle.pm_decide.specs.Places.{NoneContains}
use Rattle.pm_decide.proofs.places.some_contains.Given as goal

abbrev pub invariant-loop-place : goal.invariant-loop-place
invariant-loop-place g l =
    let before = g.R.Reach.relation l.fn.reach in
    record {
      same : g.R.Reach.relation l.reach ≡ before;
      none : NoneContains before.below l.element (take l.place-index l.places);
    }
