-- The reviews before the place are settled.
use Rattle.std.proofs.Common.{◌≡◌}
use Rattle.pm_affect.specs.Counting.{Work}
use Rattle.pm_state.specs.Drafted.{done_in}
use Rattle.pm_step.proofs.Settled.{settled_first}
use Rattle.pm_step.proofs.settling.settle_reviews.Given as goal

abbrev pub invariant-loop-place : goal.invariant-loop-place
invariant-loop-place l = record {
  graph : l.draft.graph ≡ settled_first l.before.graph l.fn.draft.graph l.version l.place;
  history : l.draft.history ≡ l.fn.draft.history;
  done : (w : Work) → done_in l.draft w ≡ done_in l.fn.draft w;
}
