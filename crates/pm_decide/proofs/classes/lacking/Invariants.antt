-- The answer is that of the classes that are left.
use Rattle.std.proofs.Common.{◌≡◌}
use Rattle.std.specs.Slice.Iter.{chunks_rest, chunks_size}
use Rattle.pm_model.specs.Decision.{lacking, associations_of}
use Rattle.pm_decide.specs.Live.{AllLive}
use Rattle.pm_decide.proofs.classes.lacking.Given as goal

abbrev pub invariant-loop-chunk : goal.invariant-loop-chunk
invariant-loop-chunk g l =
    let before = g.R.Reach.relation l.fn.reach in
    let associations = associations_of (g.G.Grants.grantees l.grants) in
    record {
      next : (goal.iterator-loop-chunk g).can_next l.chunk-iterator;
      finite : (goal.iterator-loop-chunk g).is_finite l.chunk-iterator;
      size : chunks_size l.chunk-iterator ≡ 64;
      same : g.R.Reach.relation l.reach ≡ before;
      live : AllLive before (chunks_rest l.chunk-iterator);
      rest : lacking before.below associations l.classes l.user l.right l.element
          ≡ lacking before.below associations (chunks_rest l.chunk-iterator) l.user l.right l.element;
    }
