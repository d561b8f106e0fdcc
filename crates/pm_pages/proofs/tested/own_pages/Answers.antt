use Rattle.std.proofs.Common.{◌∙◌, arith, ap, length}
use Rattle.pm_pages.specs.Listed.{items_of, is_own, is_ready, owned_where}
use Rattle.pm_pages.proofs.Changed.{map-edited, length-edited, all-step, all-edited}
use Rattle.pm_pages.proofs.Owning.{keeps-edited}
use Rattle.pm_pages.proofs.Passing.{items_where, own_where, ready_where}
use Rattle.pm_pages.proofs.tested.own_pages.Goals as goal

pub loop-k-preserved : goal.loop-k-preserved
loop-k-preserved g c =
    let i = c.loop-k.invariant in
    let e = c.in_ok-own_passing.ensures.pages in
    let k = c.loop-k.k in
    let ps = c.loop-k.pages.items in
    let change = owned_where g.passes in
    record {
      items = rw e (map-edited items_of change (items_where g.passes) k ps ∙ i.items);
      places = rw e (length-edited change k ps ∙ i.places);
      keeps = λ n h. rw e (keeps-edited change (λ p. ap length (items_where g.passes p)) (own_where g.passes) k ps n (i.keeps n h));
      before = rw e (all-step (is_ready g.passes) change (ready_where g.passes) ps k (omega (arith, i.places, c.loop-k-test.true)) i.before);
      own = λ all. rw e (all-edited is_own change (own_where g.passes) k ps (i.own all));
    }
