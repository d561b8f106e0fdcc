use Rattle.pm_model.specs.History.{state_of}
use Rattle.pm_affect.specs.Counting.{work_by, work_for, work_in}
use Rattle.pm_state.specs.Drafted.{done_in}
use Rattle.pm_step.proofs.Counted.{alone-counted, begun-counted}
use Rattle.pm_step.proofs.Stepping.{entered-is}
use Rattle.pm_step.proofs.entries.enter_in_draft.Goals as goal

pub finish-requires-clause-asked : goal.finish-requires-clause-asked
finish-requires-clause-asked c =
    rw (c.done.ensures, c.in-Ok.ensures.made, c.in_ok-draft.ensures)
    (entered-is (state_of c.args.state.now) c.args.entry.request c.args.change.now c.change.new.self.graph c.requires.asked
    (rw c.in_ok-draft.ensures at c.in-Ok.ensures.ok))

pub finish-requires-clause-done : goal.finish-requires-clause-done
finish-requires-clause-done c w =
    let M = c.args.state.now in
    alone-counted (work_in w M.history) (done_in c.change.new.self w) (work_for w M.graph c.args.change.now) (work_by w (state_of M) c.args.entry.request)
    (rw (begun-counted M w) at (rw c.in_ok-draft.ensures at (c.in-Ok.ensures.done w))) (c.requires.work w)
