-- What is left is what the classes that aren't asked about yet leave of it.
use Rattle.std.proofs.Common.{◌≡◌, ◌<◌, ◌==◌, ℕ, true}
use Rattle.std.specs.Int.{bit_at}
use Rattle.pm_decide.specs.Unmet.{AreClasses}
use Rattle.pm_decide.proofs.Unmet.{IsAsking}
use Rattle.pm_decide.proofs.classes.left_by_place.Given as goal

abbrev pub invariant-loop-unasked : goal.invariant-loop-unasked
invariant-loop-unasked g l =
    let before = g.R.Reach.relation l.fn.reach in
    record {
      same : g.R.Reach.relation l.reach ≡ before;
      classes : AreClasses before l.classes l.unasked;
      within : (j : ℕ) → j < 64 → (bit_at l.unasked j == 1) ≡ true → (bit_at l.left j == 1) ≡ true;
      asking : IsAsking (before.below l.at) l.classes l.unmet l.left l.unasked;
    }

abbrev pub decreases-loop-unasked : goal.decreases-loop-unasked
decreases-loop-unasked g l = l.unasked
