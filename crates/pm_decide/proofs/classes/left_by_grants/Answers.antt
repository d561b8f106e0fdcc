-- The next grant that can matter leaves what those behind it leave less of.
use Rattle.std.proofs.Common.{◌≡◌, ℕ, Bool, ◌+◌, refl, ◌∙◌, arith}
use Rattle.std.specs.List.{list_any}
use Rattle.std.proofs.lemmas.Option.{get_or_from_slice_get}
use Rattle.std.proofs.lemmas.List.Elements.{All-get_or, All-drop}
use Rattle.pm_model.specs.declared.rights.Grant.{Grant}
use Rattle.pm_decide.specs.Gives.{gives}
use Rattle.pm_decide.specs.Live.{IsLive}
use Rattle.pm_decide.proofs.Nexts.{next-none, next-gives}
use Rattle.pm_decide.proofs.Unmet.{left-live, leaving-begun, leaving-more, leaving-done, leaving-none}
use Rattle.pm_decide.proofs.classes.left_by_grants.Goals as goal

pub loop-left-init : goal.loop-left-init
loop-left-init g c =
    let test : ℕ → Grant → Bool = gives (g.R.Reach.relation c.args.reach.now).below c.args.right c.args.element in
    let whole : ℕ → Bool = λ pc. list_any (test pc) c.args.grantee.now.grants in
    record {
      same = refl;
      classes = c.requires.unmet;
      places = rw c.as_slice-rest.ensures c.requires.grantee.places;
      leaving = leaving-begun c.args.classes.now _ whole c.args.unmet (λ pc. rw c.as_slice-rest.ensures refl);
    }

pub returns-in-None-clause-left : goal.returns-in-None-clause-left
returns-in-None-clause-left g c =
    leaving-done c.args.classes.now _ _ c.args.unmet c.loop-left.left c.loop-left.invariant.leaving
    (next-none (g.R.Reach.relation c.args.reach.now).below c.args.right c.args.element c.loop-left.rest.now
    (rw c.loop-left.invariant.same at c.in-None.ensures.answer))

pub left_by_place-left-requires-clause-at : goal.left_by_place-left-requires-clause-at
left_by_place-left-requires-clause-at g c =
    rw (c.next_on.ensures.same, c.loop-left.invariant.same)
    (rw (get_or_from_slice_get c.loop-left.rest.now c.in-Some.i _ c.grant_at.result c.grant_at.ensures) at
    (All-get_or (λ (h : Grant). IsLive (g.R.Reach.relation c.args.reach.now) h.at) c.loop-left.rest.now c.in-Some.i c.grant_at.result
    c.in-Some.ensures.within c.loop-left.invariant.places))

pub loop-left-preserved : goal.loop-left-preserved
loop-left-preserved g c =
    let relation = g.R.Reach.relation c.args.reach.now in
    let test : ℕ → Grant → Bool = gives relation.below c.args.right c.args.element in
    let pcs = c.args.classes.now in
    let rest = c.loop-left.rest.now in
    let i = c.in-Some.i in
    let at = c.grant_at.result.at in
    let left = rw (c.next_on.ensures.same, c.loop-left.invariant.same) at c.left_by_place-left.ensures.left in
    record {
      same = c.left_by_place-left.ensures.same ∙ c.next_on.ensures.same ∙ c.loop-left.invariant.same;
      classes = left-live relation (relation.below at) pcs c.loop-left.left c.left_by_place-left.result c.loop-left.invariant.classes left;
      places = rw c.behind-rest.ensures (All-drop (λ (h : Grant). IsLive relation h.at) (i + 1) rest c.loop-left.invariant.places);
      leaving = leaving-more pcs (relation.below at) (λ pc. list_any (test pc) c.behind-rest.result.now) (λ pc. list_any (test pc) rest)
          (λ pc. list_any (test pc) c.args.grantee.now.grants) c.args.unmet c.loop-left.left c.left_by_place-left.result
          c.loop-left.invariant.leaving left
          (λ pc. rw c.behind-rest.ensures (next-gives relation.below c.args.right c.args.element rest i c.grant_at.result
          (rw c.loop-left.invariant.same at c.in-Some.ensures.answer)
          c.grant_at.ensures pc));
    }

pub returns-clause-left : goal.returns-clause-left
returns-clause-left g c =
    let none : c.loop-left.left ≡ 0 = omega (arith, c.loop-left-test.false) in
    rw none (leaving-none c.args.classes.now _ _ c.args.unmet c.loop-left.left c.loop-left.invariant.leaving none)
