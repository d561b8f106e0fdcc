-- The pairs so far, and then those of the elements that are left.
use Rattle.std.proofs.Common.{◌≡◌, ◌+◌, ◌++◌, drop}
use Rattle.pm_model.specs.Reviews.{capabilities}
use Rattle.pm_review.proofs.capabilities.Given as goal

abbrev pub invariant-loop-element : goal.invariant-loop-element
invariant-loop-element g l =
    let before = g.J.Judge.judgement l.fn.judge in
    record {
      same : g.J.Judge.judgement l.judge ≡ before;
      asked : g.J.Judge.asked l.judge ≡ g.J.Judge.asked l.fn.judge + l.element-index;
      rest : capabilities before.rights l.elements l.user ≡ l.list ++ capabilities before.rights (drop l.element-index l.elements) l.user;
    }
