-- The queue's first elements have marks.
use Rattle.std.proofs.Common.{arith, refl}
use Rattle.pm_search.proofs.MarkSteps.{queued-below}
use Rattle.pm_search.proofs.unmark.Goals as goal

pub bounds-marks-n : goal.bounds-marks-n
bounds-marks-n c =
    let below = queued-below c.args.marks.now c.args.queue.now c.args.end c.loop-n.n-index _ c.requires.queued c.loop-n-test.true refl in
    omega (arith, below, c.loop-n.auto.marks)
