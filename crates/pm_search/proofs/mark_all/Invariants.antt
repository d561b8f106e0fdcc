-- The search goes on until each element of the queue is done.
use Rattle.std.proofs.Common.{◌-◌, ◌≡◌, true, false, length, get_or}
use Rattle.pm_search.specs.Search.{Searching}
use Rattle.pm_search.proofs.mark_all.Given as goal

abbrev pub invariant-loop-head : goal.invariant-loop-head
invariant-loop-head g l = record {
  long : length l.marks ≡ length l.fn.marks;
  search : Searching (g.P.Parents.assigned l.parents) (g.P.Parents.live l.parents) l.fn.x l.marks l.queue l.head l.end;
  start : get_or l.marks l.fn.x false ≡ true;
}

abbrev pub decreases-loop-head : goal.decreases-loop-head
decreases-loop-head g l = length l.queue - l.head
