-- The rights so far, with those of the user attributes whose bits are left, are those of all.
use Rattle.std.proofs.Common.{◌≡◌}
use Rattle.pm_decide.specs.Gives.{some_gives}
use Rattle.pm_decide.specs.Hits.{AreHolders, in_word, some_of}
use Rattle.pm_decide.proofs.RightSets.{IsJoining}
use Rattle.pm_decide.proofs.rights.rights_given_in.Given as goal

abbrev pub invariant-loop-left : goal.invariant-loop-left
invariant-loop-left g l =
    let before = g.R.Reach.relation l.fn.reach in
    let all = g.G.Grants.grantees l.grants in
    record {
      same : g.R.Reach.relation l.reach ≡ before;
      holders : AreHolders all l.k l.left;
      joining : IsJoining l.rights (λ r. some_of (in_word l.k l.left) (some_gives before.below r l.element l.class) all)
          (λ r. some_of (in_word l.k l.word) (some_gives before.below r l.element l.class) all);
    }

abbrev pub decreases-loop-left : goal.decreases-loop-left
decreases-loop-left g l = l.left
