-- The grants of the user attribute of the lowest bit leave what those of the others leave less of.
use Rattle.std.proofs.Common.{ℕ, Bool, refl, ◌∙◌, ◌+◌, ◌*◌, arith}
use Rattle.pm_model.specs.declared.rights.Grantee.{Grantee}
use Rattle.pm_decide.specs.Live.{GranteeLive}
use Rattle.pm_decide.specs.Gives.{some_gives}
use Rattle.pm_decide.specs.Hits.{in_word, some_of}
use Rattle.pm_decide.proofs.Hits.{found-in, hit-first, holders-left, no-hits}
use Rattle.pm_decide.proofs.Unmet.{left-live, leaving-begun, leaving-more, leaving-done, leaving-none}
use Rattle.pm_decide.proofs.classes.left_by_word.Goals as goal

pub loop-unasked-init : goal.loop-unasked-init
loop-unasked-init g c =
    let test : ℕ → Grantee → Bool = some_gives (g.R.Reach.relation c.args.reach.now).below c.args.right c.args.element in
    let whole : ℕ → Bool = λ pc. some_of (in_word c.args.k c.args.word) (test pc) (g.G.Grants.grantees c.args.grants.now) in
    record {
      same = refl;
      classes = c.requires.unmet;
      holders = c.requires.word;
      leaving = leaving-begun c.args.classes.now whole whole c.args.unmet (λ pc. refl);
    }

pub left_by_grantee-left-requires-clause-grantee : goal.left_by_grantee-left-requires-clause-grantee
left_by_grantee-left-requires-clause-grantee g c =
    rw c.loop-unasked.invariant.same (found-in (GranteeLive (g.R.Reach.relation c.args.reach.now)) (64 * c.args.k + c.lowest-i.result)
    (g.G.Grants.grantees c.args.grants.now) c.grantee-grantee.result.now c.grantee-grantee.ensures c.requires.grants)

pub returns-then-left-eq0-clause-left : goal.returns-then-left-eq0-clause-left
returns-then-left-eq0-clause-left g c =
    leaving-none c.args.classes.now _ _ c.args.unmet c.loop-unasked.left c.loop-unasked.invariant.leaving c.if-left-eq0.true

pub loop-unasked-preserved : goal.loop-unasked-preserved
loop-unasked-preserved g c =
    let relation = g.R.Reach.relation c.args.reach.now in
    let grantees = g.G.Grants.grantees c.args.grants.now in
    let test : ℕ → Grantee → Bool = some_gives relation.below c.args.right c.args.element in
    let pcs = c.args.classes.now in
    let k = c.args.k in
    let unasked = c.loop-unasked.unasked in
    let after = c.without_bit-unasked.result in
    let g1 = c.grantee-grantee.result.now in
    let left = rw c.loop-unasked.invariant.same at c.left_by_grantee-left.ensures.left in
    record {
      same = c.left_by_grantee-left.ensures.same ∙ c.loop-unasked.invariant.same;
      classes = left-live relation (λ pc. test pc g1) pcs c.loop-unasked.left c.left_by_grantee-left.result c.loop-unasked.invariant.classes left;
      holders = holders-left k unasked c.lowest-i.result c.lowest-i.ensures.within c.lowest-i.ensures.set after c.without_bit-unasked.ensures.rest grantees
          c.loop-unasked.invariant.holders;
      leaving = leaving-more pcs (λ pc. test pc g1) (λ pc. some_of (in_word k after) (test pc) grantees)
          (λ pc. some_of (in_word k unasked) (test pc) grantees) (λ pc. some_of (in_word k c.args.word) (test pc) grantees)
          c.args.unmet c.loop-unasked.left c.left_by_grantee-left.result c.loop-unasked.invariant.leaving left
          (λ pc. hit-first k unasked c.lowest-i.result c.lowest-i.ensures.within c.lowest-i.ensures.set after c.without_bit-unasked.ensures.rest
          grantees g1 c.grantee-grantee.ensures (test pc));
    }

pub returns-clause-left : goal.returns-clause-left
returns-clause-left g c =
    let grantees = g.G.Grants.grantees c.args.grants.now in
    let test : ℕ → Grantee → Bool = some_gives (g.R.Reach.relation c.args.reach.now).below c.args.right c.args.element in
    leaving-done c.args.classes.now (λ pc. some_of (in_word c.args.k c.loop-unasked.unasked) (test pc) grantees)
    (λ pc. some_of (in_word c.args.k c.args.word) (test pc) grantees)
    c.args.unmet c.loop-unasked.left c.loop-unasked.invariant.leaving (λ pc. no-hits (test pc) c.args.k c.loop-unasked.unasked grantees (omega arith))
