-- The rights so far, with those of the user attributes of the words that are left, are those of all.
use Rattle.std.proofs.Common.{◌≡◌}
use Rattle.pm_model.specs.Decision.{is_met, associations_of}
use Rattle.pm_decide.specs.Gives.{some_gives}
use Rattle.pm_decide.specs.Hits.{some_of}
use Rattle.pm_decide.proofs.Hits.{from_word}
use Rattle.pm_decide.proofs.RightSets.{IsJoining}
use Rattle.pm_decide.proofs.rights.rights_met.Given as goal

abbrev pub invariant-loop-k : goal.invariant-loop-k
invariant-loop-k g l =
    let before = g.R.Reach.relation l.fn.reach in
    let all = g.G.Grants.grantees l.grants in
    record {
      same : g.R.Reach.relation l.reach ≡ before;
      joining : IsJoining l.rights (λ r. some_of (from_word before.below l.user l.k) (some_gives before.below r l.element l.class) all)
          (λ r. is_met before.below (associations_of all) l.user r l.element l.class);
    }
