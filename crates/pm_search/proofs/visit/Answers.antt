-- A new mark takes its place in the queue.
use Rattle.pm_search.proofs.SearchSteps.{Visited-new}
use Rattle.pm_search.proofs.visit.Goals as goal

pub returns-else-marks-n : goal.returns-else-marks-n
returns-else-marks-n c =
    let n = c.number-n.ensures in
    let unmarked = rw n at c.if-marks-n.false in
    rw n (Visited-new c.args.marks.now c.args.queue.now c.args.end c.args.w c.requires.w_in unmarked c.requires.counted c.requires.as_long)
