use Rattle.std.proofs.Common.{◌<◌, ◌≤◌, arith}
use Rattle.std.proofs.lemmas.List.{length-map}
use Rattle.pm_affect.specs.Puts.{elements_of}
use Rattle.pm_affect.proofs.Places.{place-within, place-above, place-below}
use Rattle.pm_affect.proofs.Puts.{element-at, order-rise}
use Rattle.pm_affect.proofs.pairs.place_of.Goals as goal

pub loop-low-init : goal.loop-low-init
loop-low-init c =
    let within = place-within c.args.element (elements_of c.args.pairs.now) in
    let same = length-map c.args.pairs.now (λ p. p.element) in record {
      above = omega arith;
      below = omega (arith, within, same, c.len-high.ensures);
      within = omega (arith, c.len-high.ensures);
    }

pub loop-low-preserved-then-number : goal.loop-low-preserved-then-number
loop-low-preserved-then-number c =
    let lower : c.at.result.now.element < c.args.element = omega arith in
    let behind = place-above 0 c.args.element _ c.at.result.now.element (elements_of c.args.pairs.now) (order-rise 0 c.args.pairs.now c.requires)
    (element-at c.args.pairs.now _ c.at.result.now c.at.ensures) lower in record {
      above = behind;
      below = c.loop-low.invariant.below;
      within = c.loop-low.invariant.within;
    }

pub loop-low-preserved : goal.loop-low-preserved
loop-low-preserved c =
    let above : c.args.element ≤ c.at.result.now.element = omega arith in
    let before = place-below c.args.element _ c.at.result.now.element (elements_of c.args.pairs.now)
    (element-at c.args.pairs.now _ c.at.result.now c.at.ensures) above in record {
      above = c.loop-low.invariant.above;
      below = before;
      within = omega (arith, c.loop-low.invariant.within);
    }
