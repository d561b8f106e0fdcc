use Rattle.std.proofs.Common.{sym}
use Rattle.pm_affect.proofs.Merging.{first-lower, merge-lower, merge-row}
use Rattle.pm_affect.proofs.merge.merged.Goals as goal

pub loop-n-preserved-then-is_lower : goal.loop-n-preserved-then-is_lower
loop-n-preserved-then-is_lower c =
    let lower = first-lower c.args.pairs.now c.loop-n.i c.at-pair.result.now.element c.at.result.now c.at.ensures (sym c.if-is_lower.ensures) in
    rw c.in_ok-push.ensures.ok
    (merge-lower c.args.row.now c.args.pairs.now c.requires c.loop-n.n c.loop-n.i c.at-pair.result.now c.at-pair.ensures c.loop-n.all _
    c.at.result.now c.at.ensures lower c.loop-n.invariant)

pub loop-n-preserved : goal.loop-n-preserved
loop-n-preserved c = rw c.in_ok-push_some.ensures
    (merge-row c.args.row.now c.args.pairs.now c.requires c.loop-n.n c.loop-n.i c.at-pair.result.now c.at-pair.ensures c.loop-n.all _
    c.past-i.result (sym c.if-is_lower.ensures) c.past-i.ensures.rest c.loop-n.invariant)
