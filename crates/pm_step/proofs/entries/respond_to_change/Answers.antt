use Rattle.pm_model.specs.History.{state_of}
use Rattle.pm_affect.specs.Counting.{work_by, work_in}
use Rattle.pm_state.specs.Drafted.{done_in}
use Rattle.pm_step.proofs.Counted.{begun-counted, change-counted}
use Rattle.pm_step.proofs.Placed.{change-settled, change-responders}
use Rattle.pm_step.proofs.entries.respond_to_change.Goals as goal

pub settle-requires-clause-standing : goal.settle-requires-clause-standing
settle-requires-clause-standing c =
    change-responders (state_of c.args.state.now) c.args.change.now c.args.event.now c.change.new.self.graph c.in_ok-places.places
    (rw c.in_ok-draft.ensures at c.in-Ok.ensures.ok) (rw (c.graph.ensures, c.withdrawn.ensures) at c.in_ok-places.ensures.places)
    (rw c.graph.ensures at c.in_ok-places.ensures.below)

pub settle-requires-clause-asked : goal.settle-requires-clause-asked
settle-requires-clause-asked c =
    rw (c.done-reply.ensures, c.len.ensures, c.in-Ok.ensures.made, c.in_ok-draft.ensures)
    (change-settled (state_of c.args.state.now) c.args.change.now c.args.event.now c.change.new.self.graph c.in_ok-places.places c.args.entry.request
    c.requires.asked (rw c.in_ok-draft.ensures at c.in-Ok.ensures.ok) (rw (c.graph.ensures, c.withdrawn.ensures) at c.in_ok-places.ensures.places))

pub settle-requires-clause-done : goal.settle-requires-clause-done
settle-requires-clause-done c w =
    let M = c.args.state.now in
    change-counted w (state_of M) c.args.event.now c.change.new.self.graph c.in_ok-places.places c.args.change.now (work_in w M.history)
    (done_in c.change.new.self w) (work_by w (state_of M) c.args.entry.request) (rw c.in_ok-draft.ensures at c.in-Ok.ensures.ok)
    (rw (c.graph.ensures, c.withdrawn.ensures) at c.in_ok-places.ensures.places)
    (rw (begun-counted M w) at (rw c.in_ok-draft.ensures at (c.in-Ok.ensures.done w))) (c.requires.work w)
