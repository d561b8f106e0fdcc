use Rattle.std.proofs.Common.{arith}
use Rattle.pm_procs.proofs.Places.{lower-before, others-behind}
use Rattle.pm_procs.proofs.numbered.count_lower.Goals as goal

pub loop-low-preserved-then-number : goal.loop-low-preserved-then-number
loop-low-preserved-then-number g c = record {
  between = omega arith;
  within = c.loop-low.invariant.within;
  lower = lower-before g.T.Numbered.number c.args.number c.args.items.now.items _ c.at.result.now c.requires c.at.ensures (omega (arith, c.number.ensures));
  others = c.loop-low.invariant.others;
}

pub loop-low-preserved : goal.loop-low-preserved
loop-low-preserved g c = record {
  between = omega arith;
  within = omega (arith, c.loop-low.invariant.within);
  lower = c.loop-low.invariant.lower;
  others = others-behind g.T.Numbered.number c.args.number c.args.items.now.items _ c.at.result.now c.requires c.at.ensures (omega (arith, c.number.ensures));
}
