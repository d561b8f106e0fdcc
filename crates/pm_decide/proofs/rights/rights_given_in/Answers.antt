-- The rights that the user attribute of the lowest bit gives come to the others.
use Rattle.std.proofs.Common.{ℕ, Bool, refl, ◌∙◌, ◌+◌, ◌*◌, arith}
use Rattle.pm_model.specs.declared.rights.Grantee.{Grantee}
use Rattle.pm_decide.specs.Live.{GranteeLive}
use Rattle.pm_decide.specs.Gives.{some_gives}
use Rattle.pm_decide.specs.Hits.{in_word, some_of}
use Rattle.pm_decide.proofs.Hits.{found-in, hit-first, holders-left, no-hits}
use Rattle.pm_decide.proofs.RightSets.{joining-more, joining-begun, joining-done}
use Rattle.pm_decide.proofs.rights.rights_given_in.Goals as goal

pub loop-left-init : goal.loop-left-init
loop-left-init g c = record { same = refl; holders = c.requires.word; joining = joining-begun _ }

pub rights_of_grantee-more-requires-clause-grantee : goal.rights_of_grantee-more-requires-clause-grantee
rights_of_grantee-more-requires-clause-grantee g c =
    rw c.loop-left.invariant.same (found-in (GranteeLive (g.R.Reach.relation c.args.reach.now)) (64 * c.args.k + c.lowest-i.result)
    (g.G.Grants.grantees c.args.grants.now) c.grantee-grantee.result.now c.grantee-grantee.ensures c.requires.grants)

pub loop-left-preserved : goal.loop-left-preserved
loop-left-preserved g c =
    let all = g.G.Grants.grantees c.args.grants.now in
    let test : ℕ → Grantee → Bool = λ r. some_gives (g.R.Reach.relation c.args.reach.now).below r c.args.element c.args.class in
    record {
      same = c.rights_of_grantee-more.ensures.same ∙ c.loop-left.invariant.same;
      holders = holders-left c.args.k c.loop-left.left c.lowest-i.result c.lowest-i.ensures.within c.lowest-i.ensures.set
          c.without_bit-left.result c.without_bit-left.ensures.rest all c.loop-left.invariant.holders;
      joining = rw c.union-rights.ensures (joining-more c.loop-left.rights c.rights_of_grantee-more.result
          (λ r. test r c.grantee-grantee.result.now) (λ r. some_of (in_word c.args.k c.without_bit-left.result) (test r) all)
          (λ r. some_of (in_word c.args.k c.loop-left.left) (test r) all) (λ r. some_of (in_word c.args.k c.args.word) (test r) all)
          c.loop-left.invariant.joining (rw c.loop-left.invariant.same at c.rights_of_grantee-more.ensures.answer)
          (λ r. hit-first c.args.k c.loop-left.left c.lowest-i.result c.lowest-i.ensures.within c.lowest-i.ensures.set
          c.without_bit-left.result c.without_bit-left.ensures.rest all c.grantee-grantee.result.now c.grantee-grantee.ensures (test r)));
    }

pub returns-clause-answer : goal.returns-clause-answer
returns-clause-answer g c =
    let all = g.G.Grants.grantees c.args.grants.now in
    let test : ℕ → Grantee → Bool = λ r. some_gives (g.R.Reach.relation c.args.reach.now).below r c.args.element c.args.class in
    joining-done c.loop-left.rights (λ r. some_of (in_word c.args.k c.loop-left.left) (test r) all) (λ r. some_of (in_word c.args.k c.args.word) (test r) all)
    c.loop-left.invariant.joining (λ r. no-hits (test r) c.args.k c.loop-left.left all (omega arith))
