-- From no mark to all marks.
use Rattle.std.proofs.Common.{arith, ◌∙◌, refl}
use Rattle.pm_model.proofs.ContainmentLaws.{contained-itself}
use Rattle.pm_search.proofs.SearchSteps.{count-unmarked, Searching-none, Searching-expanded, Searching-over, Searching-queued, queue_room}
use Rattle.pm_search.proofs.mark_all.Goals as goal

pub visit-end-requires-clause-counted : goal.visit-end-requires-clause-counted
visit-end-requires-clause-counted g c = count-unmarked _ c.requires.none

pub loop-head-init : goal.loop-head-init
loop-head-init g c = record {
  long = c.visit-end.ensures.later.marks_long;
  search = c.visit-end.ensures.step _ _ c.args.x 0
      (Searching-none _ _ _ _ _ c.requires.none c.requires.as_long) c.requires.x_live (contained-itself _ _);
  start = c.visit-end.ensures.marked;
}

pub offset_bounds-queue-head : goal.offset_bounds-queue-head
offset_bounds-queue-head g c = omega (arith, queue_room c.loop-head.invariant.search)

pub bounds-queue-head : goal.bounds-queue-head
bounds-queue-head g c = omega (arith, queue_room c.loop-head.invariant.search)

pub loop-head-smaller : goal.loop-head-smaller
loop-head-smaller g c =
    omega (arith, queue_room c.loop-head.invariant.search, c.expand-end.ensures.later.queue_long)

pub loop-head-preserved : goal.loop-head-preserved
loop-head-preserved g c = record {
  long = c.expand-end.ensures.later.marks_long ∙ c.loop-head.invariant.long;
  search = Searching-expanded c.loop-head.invariant.search (omega arith) refl c.expand-end.ensures;
  start = c.expand-end.ensures.later.marks_kept _ c.loop-head.invariant.start;
}

pub returns : goal.returns
returns g c = record {
  above = Searching-over c.loop-head.invariant.search (omega arith) c.loop-head.invariant.start;
  queued = Searching-queued c.loop-head.invariant.search (omega arith) c.loop-head.invariant.start;
  within = queue_room c.loop-head.invariant.search;
}
