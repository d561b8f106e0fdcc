-- The places so far stand for those of the obligations so far that match, but for the one that is left out.
use Rattle.std.proofs.Common.{◌≡◌, ◌<◌, ◌≤◌, length, take, All}
use Rattle.pm_model.specs.Obligations.{matching}
use Rattle.pm_runner.specs.Standing.{StandAt, IsRunOf, without}
use Rattle.pm_runner.proofs.matched.places_of.Given as goal

abbrev pub invariant-loop-i : goal.invariant-loop-i
invariant-loop-i g l =
    let before = g.R.Reach.relation l.fn.reach in
    record {
      same : g.R.Reach.relation l.reach ≡ before;
      places : StandAt l.obligations.items l.places (matching before.below (without l.left_out (take l.i l.obligations.items)) l.event);
      below : All (λ place. place < length l.obligations.items) l.places;
      few : length l.places ≤ l.i;
      run : IsRunOf l.obligations.items l.last;
    }
