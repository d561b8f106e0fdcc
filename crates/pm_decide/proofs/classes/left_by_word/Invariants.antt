-- What is left is what the user attributes whose bits are left leave of it.
use Rattle.std.proofs.Common.{◌≡◌}
use Rattle.pm_decide.specs.Gives.{some_gives}
use Rattle.pm_decide.specs.Hits.{AreHolders, in_word, some_of}
use Rattle.pm_decide.specs.Unmet.{AreClasses}
use Rattle.pm_decide.proofs.Unmet.{IsLeaving}
use Rattle.pm_decide.proofs.classes.left_by_word.Given as goal

abbrev pub invariant-loop-unasked : goal.invariant-loop-unasked
invariant-loop-unasked g l =
    let before = g.R.Reach.relation l.fn.reach in
    let grantees = g.G.Grants.grantees l.grants in
    record {
      same : g.R.Reach.relation l.reach ≡ before;
      classes : AreClasses before l.classes l.left;
      holders : AreHolders grantees l.k l.unasked;
      leaving : IsLeaving l.classes (λ pc. some_of (in_word l.k l.unasked) (some_gives before.below l.right l.element pc) grantees)
          (λ pc. some_of (in_word l.k l.word) (some_gives before.below l.right l.element pc) grantees) l.unmet l.left;
    }

abbrev pub decreases-loop-unasked : goal.decreases-loop-unasked
decreases-loop-unasked g l = l.unasked
