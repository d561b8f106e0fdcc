-- The first of a chunk is the answer; where it has none, the answer is that of the classes behind it.
use Rattle.std.proofs.Common.{ℕ, Bool, sym, ◌∙◌, not, rules}
use Rattle.std.specs.Slice.Iter.{chunks_rest}
use Rattle.pm_model.specs.Decision.{is_met, lacking, associations_of}
use Rattle.pm_decide.specs.Live.{IsLive}
use Rattle.pm_decide.proofs.Unmet.{live-parts, first-in, first-behind}
use Rattle.pm_decide.proofs.classes.lacking.Goals as goal

pub returns-then-is_some-clause-answer : goal.returns-then-is_some-clause-answer
returns-then-is_some-clause-answer g c =
    let below = (g.R.Reach.relation c.args.reach.now).below in
    let associations = associations_of (g.G.Grants.grantees c.args.grants.now) in
    let met : ℕ → Bool = is_met below associations c.args.user c.args.right c.args.element in
    first-in (below c.args.element) (λ pc. not (met pc)) (chunks_rest c.loop-chunk.chunk-iterator) c.in-Some.chunk.now (chunks_rest c.next.new.self)
    c.in-Some.ensures.steps.1.0 (lacking below associations c.args.classes.now c.args.user c.args.right c.args.element)
    c.loop-chunk.invariant.rest c.lacking_among-found.result (sym c.is_some.ensures ∙ c.if-is_some.true)
    (rw c.loop-chunk.invariant.same at c.lacking_among-found.ensures.answer)

pub loop-chunk-preserved : goal.loop-chunk-preserved
loop-chunk-preserved g c =
    let relation = g.R.Reach.relation c.args.reach.now in
    let below = relation.below in
    let associations = associations_of (g.G.Grants.grantees c.args.grants.now) in
    let met : ℕ → Bool = is_met below associations c.args.user c.args.right c.args.element in
    let within : ℕ → Bool = below c.args.element in
    let unmet : ℕ → Bool = λ pc. not (met pc) in
    let all = chunks_rest c.loop-chunk.chunk-iterator in
    let chunk = c.in-Some.chunk.now in
    let behind = chunks_rest c.next.new.self in
    let steps = c.in-Some.ensures.steps in
    record {
      next = search rules;
      finite = tt;
      size = steps.0 ∙ c.loop-chunk.invariant.size;
      same = c.lacking_among-found.ensures.same ∙ c.loop-chunk.invariant.same;
      live = (live-parts within unmet all chunk behind steps.1.0 (IsLive relation) c.loop-chunk.invariant.live).1;
      rest = first-behind within unmet all chunk behind steps.1.0 (lacking below associations c.args.classes.now c.args.user c.args.right c.args.element)
          c.loop-chunk.invariant.rest c.lacking_among-found.result
          (sym c.is_some.ensures ∙ c.if-is_some.false) (rw c.loop-chunk.invariant.same at c.lacking_among-found.ensures.answer);
    }
