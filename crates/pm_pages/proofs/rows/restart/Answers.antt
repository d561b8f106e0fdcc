use Rattle.std.proofs.Common.{ap, arith, length, sym}
use Rattle.pm_pages.specs.Listed.{items_of}
use Rattle.pm_pages.proofs.Spots.{starts-step, length-step, length-walk}
use Rattle.pm_pages.proofs.rows.restart.Goals as goal

pub overflow_add-begin : goal.overflow_add-begin
overflow_add-begin g c =
    let i = c.loop-page.invariant in
    let walk = length-walk items_of c.args.pages.now c.loop-page.page-index c.page-item.result c.loop-page-test.true c.page-item.is in
    let l = ap length c.items.ensures in
    omega (arith, walk, l, i.begin, c.requires.most, c.ranges.most)

pub loop-page-preserved : goal.loop-page-preserved
loop-page-preserved g c =
    let i = c.loop-page.invariant in
    let l = ap length c.items.ensures in
    let step = length-step items_of c.args.pages.now c.loop-page.page-index c.page-item.result c.loop-page-test.true c.page-item.is in
    record {
      starts = rw (c.push_reserved.ensures.items, i.starts, i.begin) (sym (starts-step items_of _ _ c.page-item.result c.loop-page-test.true c.page-item.is));
      begin = omega (arith, i.begin, l, step);
      places = omega (arith, i.places, c.push_reserved.ensures.capacity);
      so_far = omega (arith, i.so_far, c.push_reserved.ensures.len);
    }
