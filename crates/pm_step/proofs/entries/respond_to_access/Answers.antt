use Rattle.std.proofs.Common.{refl}
use Rattle.pm_model.specs.History.{state_of}
use Rattle.pm_affect.specs.Counting.{capped, work_by, work_in}
use Rattle.pm_step.proofs.Counted.{access-counted, begun-counted}
use Rattle.pm_step.proofs.Placed.{access-settled, access-responders}
use Rattle.pm_step.proofs.entries.respond_to_access.Goals as goal

pub settle-requires-clause-standing : goal.settle-requires-clause-standing
settle-requires-clause-standing c =
    rw c.in_ok-draft.ensures
    (access-responders (state_of c.args.state.now) c.args.event.now c.in_ok-places.places (rw c.graph.ensures at c.in_ok-places.ensures.places)
    (rw c.graph.ensures at c.in_ok-places.ensures.below))

pub settle-requires-clause-asked : goal.settle-requires-clause-asked
settle-requires-clause-asked c =
    rw (c.len-fired.ensures, c.in_ok-draft.ensures)
    (access-settled (state_of c.args.state.now) c.args.event.now c.in_ok-places.places c.args.entry.request c.requires.asked c.requires.some
    (rw c.graph.ensures at c.in_ok-places.ensures.places))

pub settle-requires-clause-done : goal.settle-requires-clause-done
settle-requires-clause-done c w =
    let M = c.args.state.now in
    rw (c.in_ok-draft.ensures, begun-counted M w)
    (access-counted w (state_of M) c.args.event.now c.in_ok-places.places (work_in w M.history) (capped (work_in w M.history))
    (work_by w (state_of M) c.args.entry.request) (rw c.graph.ensures at c.in_ok-places.ensures.places) refl (c.requires.work w))
