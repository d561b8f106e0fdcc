-- The rights so far, with those at the elements whose bits are left, are those at all.
use Rattle.std.proofs.Common.{◌≡◌, ◌<◌, ◌==◌, ℕ, true, List}
use Rattle.std.specs.Int.{bit_at}
use Rattle.std.specs.List.{list_any}
use Rattle.pm_model.specs.declared.rights.Grant.{Grant}
use Rattle.pm_decide.proofs.RightSets.{IsJoining}
use Rattle.pm_given.specs.Joins.{AreIn, gives_in}
use Rattle.pm_given.specs.Told.{AreTold}
use Rattle.pm_given.proofs.joins.rights_of_word.Given as goal

abbrev pub invariant-loop-left : goal.invariant-loop-left
invariant-loop-left g l =
    let before = g.R.Reach.relation l.fn.reach in
    record {
      same : g.R.Reach.relation l.reach ≡ before;
      less : (i : ℕ) → i < 64 → (bit_at l.left i == 1) ≡ true → (bit_at l.word i == 1) ≡ true;
      joining : (L : List Grant) (marks : List ℕ) (e : ℕ) → AreTold L l.own marks → AreIn before.below e l.k l.word →
          IsJoining l.rights (λ r. list_any (gives_in before.below l.k l.left r e l.class) L) (λ r. list_any (gives_in before.below l.k l.word r e l.class) L);
    }

abbrev pub decreases-loop-left : goal.decreases-loop-left
decreases-loop-left g l = l.left
