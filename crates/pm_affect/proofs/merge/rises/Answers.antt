use Rattle.std.proofs.Common.{◌≡◌, ◌<◌, ◌≤◌, ◌∙◌, arith}
use Rattle.pm_affect.proofs.Merging.{rises-lower, rises-next}
use Rattle.pm_affect.proofs.merge.rises.Goals as goal

pub returns-then-number-low : goal.returns-then-number-low
returns-then-number-low c =
    let lower : c.at.result.now.element < c.loop-n.low = omega (arith, c.number.ensures, c.from-number.ensures) in
    rises-lower c.args.row.now c.loop-n.n c.loop-n.low c.at.result.now c.at.ensures lower ∙ c.loop-n.invariant.rest

pub loop-n-preserved : goal.loop-n-preserved
loop-n-preserved c =
    let same : c.from-number.result ≡ c.at.result.now.element = omega (arith, c.number.ensures, c.from-number.ensures) in
    let least : c.loop-n.low ≤ c.at.result.now.element = omega (arith, same) in record {
      rest = rw same (rises-next c.args.row.now c.loop-n.n c.loop-n.low c.at.result.now c.at.ensures least ∙ c.loop-n.invariant.rest);
      few = omega (arith, c.from-number.ensures);
    }
