-- The user attributes of a word leave what those of the words behind it leave less of.
use Rattle.std.proofs.Common.{ℕ, Bool, ◌+◌, refl, ◌∙◌}
use Rattle.pm_model.specs.declared.rights.Grantee.{Grantee}
use Rattle.pm_model.specs.Decision.{is_met, associations_of}
use Rattle.pm_decide.specs.Gives.{some_gives}
use Rattle.pm_decide.specs.Hits.{in_word, some_of}
use Rattle.pm_decide.proofs.Groups.{met_by_some}
use Rattle.pm_decide.proofs.Hits.{from_word, words-begun, words-done, word-step, hits-holders}
use Rattle.pm_decide.proofs.Unmet.{left-live, leaving-begun, leaving-more, leaving-done, leaving-none}
use Rattle.pm_decide.proofs.classes.left_by_user.Goals as goal

pub loop-k-init : goal.loop-k-init
loop-k-init g c =
    let below = (g.R.Reach.relation c.args.reach.now).below in
    let grantees = g.G.Grants.grantees c.args.grants.now in
    let test : ℕ → Grantee → Bool = some_gives below c.args.right c.args.element in
    record {
      same = refl;
      classes = c.requires.unmet;
      leaving = leaving-begun c.args.classes.now (λ pc. some_of (from_word below c.args.user 0) (test pc) grantees)
          (is_met below (associations_of grantees) c.args.user c.args.right c.args.element) c.args.unmet
          (λ pc. met_by_some below c.args.user c.args.right c.args.element pc grantees ∙ words-begun below c.args.user (test pc) grantees);
    }

pub left_by_word-left-requires-clause-word : goal.left_by_word-left-requires-clause-word
left_by_word-left-requires-clause-word g c =
    hits-holders (g.R.Reach.relation c.loop-k.reach).below c.args.user (g.G.Grants.grantees c.args.grants.now) c.loop-k.k c.holders_above-word.result
    c.holders_above-word.ensures.hits

pub returns-then-left-eq0-clause-left : goal.returns-then-left-eq0-clause-left
returns-then-left-eq0-clause-left g c =
    leaving-none c.args.classes.now _ _ c.args.unmet c.loop-k.left c.loop-k.invariant.leaving c.if-left-eq0.true

pub loop-k-preserved : goal.loop-k-preserved
loop-k-preserved g c =
    let relation = g.R.Reach.relation c.args.reach.now in
    let grantees = g.G.Grants.grantees c.args.grants.now in
    let test : ℕ → Grantee → Bool = some_gives relation.below c.args.right c.args.element in
    let pcs = c.args.classes.now in
    let k = c.loop-k.k in
    let word = c.holders_above-word.result in
    let left = rw (c.holders_above-word.ensures.same, c.loop-k.invariant.same) at c.left_by_word-left.ensures.left in
    record {
      same = c.left_by_word-left.ensures.same ∙ c.holders_above-word.ensures.same ∙ c.loop-k.invariant.same;
      classes = left-live relation (λ pc. some_of (in_word k word) (test pc) grantees) pcs c.loop-k.left c.left_by_word-left.result
          c.loop-k.invariant.classes left;
      leaving = leaving-more pcs (λ pc. some_of (in_word k word) (test pc) grantees)
          (λ pc. some_of (from_word relation.below c.args.user (k + 1)) (test pc) grantees)
          (λ pc. some_of (from_word relation.below c.args.user k) (test pc) grantees)
          (is_met relation.below (associations_of grantees) c.args.user c.args.right c.args.element)
          c.args.unmet c.loop-k.left c.left_by_word-left.result c.loop-k.invariant.leaving left
          (λ pc. word-step relation.below c.args.user (test pc) grantees k word (rw c.loop-k.invariant.same at c.holders_above-word.ensures.hits));
    }

pub returns-clause-left : goal.returns-clause-left
returns-clause-left g c =
    let below = (g.R.Reach.relation c.args.reach.now).below in
    let grantees = g.G.Grants.grantees c.args.grants.now in
    let test : ℕ → Grantee → Bool = some_gives below c.args.right c.args.element in
    leaving-done c.args.classes.now (λ pc. some_of (from_word below c.args.user c.loop-k.k) (test pc) grantees)
    (is_met below (associations_of grantees) c.args.user c.args.right c.args.element) c.args.unmet c.loop-k.left c.loop-k.invariant.leaving
    (λ pc. words-done below c.args.user (test pc) grantees c.holder_words-k-end.result c.loop-k.k c.holder_words-k-end.ensures.within c.loop-k-test.false)
