use Rattle.std.proofs.Common.{refl}
use Rattle.pm_model.specs.State.{opening}
use Rattle.pm_state.proofs.Listed.{empty-listed}
use Rattle.pm_state.proofs.state.State.opening.Goals as goal

pub invariant_of-result : goal.invariant_of-result
invariant_of-result c =
    rw (c.in_ok-graph.ensures, c.new-lists.ensures, c.new-history.ensures) (record {
      replayed = record { legal = tt; content = refl };
      limit = refl;
      listed = empty-listed opening.graph refl;
      asked = refl;
      written = refl;
    })
