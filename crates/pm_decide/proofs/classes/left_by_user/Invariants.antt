-- What is left is what the user attributes of the words that are left leave of it.
use Rattle.std.proofs.Common.{◌≡◌}
use Rattle.pm_model.specs.Decision.{is_met, associations_of}
use Rattle.pm_decide.specs.Gives.{some_gives}
use Rattle.pm_decide.specs.Hits.{some_of}
use Rattle.pm_decide.specs.Unmet.{AreClasses}
use Rattle.pm_decide.proofs.Hits.{from_word}
use Rattle.pm_decide.proofs.Unmet.{IsLeaving}
use Rattle.pm_decide.proofs.classes.left_by_user.Given as goal

abbrev pub invariant-loop-k : goal.invariant-loop-k
invariant-loop-k g l =
    let before = g.R.Reach.relation l.fn.reach in
    let grantees = g.G.Grants.grantees l.grants in
    record {
      same : g.R.Reach.relation l.reach ≡ before;
      classes : AreClasses before l.classes l.left;
      leaving : IsLeaving l.classes (λ pc. some_of (from_word before.below l.user l.k) (some_gives before.below l.right l.element pc) grantees)
          (is_met before.below (associations_of grantees) l.user l.right l.element) l.unmet l.left;
    }
