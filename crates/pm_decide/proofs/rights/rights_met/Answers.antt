-- The rights that the user attributes of the word give come to the others.
use Rattle.std.proofs.Common.{ℕ, Bool, ◌+◌, refl, sym, ◌∙◌}
use Rattle.pm_model.specs.declared.rights.Grantee.{Grantee}
use Rattle.pm_model.specs.Decision.{is_met, associations_of}
use Rattle.pm_decide.specs.Gives.{some_gives}
use Rattle.pm_decide.specs.Hits.{in_word, some_of}
use Rattle.pm_decide.proofs.Groups.{met_by_some}
use Rattle.pm_decide.proofs.Hits.{from_word, words-begun, words-done, word-step, hits-holders}
use Rattle.pm_decide.proofs.RightSets.{joining-more, joining-from, joining-done}
use Rattle.pm_decide.proofs.rights.rights_met.Goals as goal

pub loop-k-init : goal.loop-k-init
loop-k-init g c =
    let below = (g.R.Reach.relation c.args.reach.now).below in
    let all = g.G.Grants.grantees c.args.grants.now in
    record {
      same = refl;
      joining = joining-from _ _ (λ r. sym (met_by_some below c.args.user r c.args.element c.args.class all
          ∙ words-begun below c.args.user (some_gives below r c.args.element c.args.class) all));
    }

pub rights_given_in-more-requires-clause-word : goal.rights_given_in-more-requires-clause-word
rights_given_in-more-requires-clause-word g c =
    hits-holders (g.R.Reach.relation c.loop-k.reach).below c.args.user (g.G.Grants.grantees c.args.grants.now) c.loop-k.k c.holders_above-word.result
    c.holders_above-word.ensures.hits

pub loop-k-preserved : goal.loop-k-preserved
loop-k-preserved g c =
    let below = (g.R.Reach.relation c.args.reach.now).below in
    let all = g.G.Grants.grantees c.args.grants.now in
    let test : ℕ → Grantee → Bool = λ r. some_gives below r c.args.element c.args.class in
    let k = c.loop-k.k in
    record {
      same = c.rights_given_in-more.ensures.same ∙ c.holders_above-word.ensures.same ∙ c.loop-k.invariant.same;
      joining = rw c.union-rights.ensures (joining-more c.loop-k.rights c.rights_given_in-more.result
          (λ r. some_of (in_word k c.holders_above-word.result) (test r) all) (λ r. some_of (from_word below c.args.user (k + 1)) (test r) all)
          (λ r. some_of (from_word below c.args.user k) (test r) all) (λ r. is_met below (associations_of all) c.args.user r c.args.element c.args.class)
          c.loop-k.invariant.joining (rw (c.holders_above-word.ensures.same, c.loop-k.invariant.same) at c.rights_given_in-more.ensures.answer)
          (λ r. word-step below c.args.user (test r) all k c.holders_above-word.result (rw c.loop-k.invariant.same at c.holders_above-word.ensures.hits)));
    }

pub returns-clause-answer : goal.returns-clause-answer
returns-clause-answer g c =
    let below = (g.R.Reach.relation c.args.reach.now).below in
    let all = g.G.Grants.grantees c.args.grants.now in
    let test : ℕ → Grantee → Bool = λ r. some_gives below r c.args.element c.args.class in
    joining-done c.loop-k.rights (λ r. some_of (from_word below c.args.user c.loop-k.k) (test r) all)
    (λ r. is_met below (associations_of all) c.args.user r c.args.element c.args.class)
    c.loop-k.invariant.joining
    (λ r. words-done below c.args.user (test r) all c.holder_words-k-end.result c.loop-k.k c.holder_words-k-end.ensures.within c.loop-k-test.false)
