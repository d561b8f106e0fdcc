use Rattle.pm_state.proofs.Listed.{copied-listed}
use Rattle.pm_state.proofs.state.State.copy.Goals as goal

pub invariant_of-result : goal.invariant_of-result
invariant_of-result c =
    let s = c.self.inside in
    let kept = c.self.invariant in
    rw (c.in_ok-graph.ensures, c.in_ok-lists.ensures, c.in_ok-history.ensures) (record {
      replayed = kept.replayed;
      limit = kept.limit;
      listed = copied-listed s.lists s.graph kept.listed;
      asked = kept.asked;
      written = kept.written;
    })
