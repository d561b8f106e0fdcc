-- The pairs so far, and then those of the users that are left.
use Rattle.std.proofs.Common.{◌≡◌, ◌+◌, ◌++◌, drop}
use Rattle.pm_model.specs.Reviews.{entries}
use Rattle.pm_review.proofs.entries.Given as goal

abbrev pub invariant-loop-user : goal.invariant-loop-user
invariant-loop-user g l =
    let before = g.J.Judge.judgement l.fn.judge in
    record {
      same : g.J.Judge.judgement l.judge ≡ before;
      asked : g.J.Judge.asked l.judge ≡ g.J.Judge.asked l.fn.judge + l.user-index;
      rest : entries before.rights l.users l.element ≡ l.list ++ entries before.rights (drop l.user-index l.users) l.element;
    }
