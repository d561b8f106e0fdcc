-- The count so far is that of the elements before.
use Rattle.std.proofs.Common.{◌≡◌, ◌≤◌, ◌*◌, take}
use Rattle.pm_model.specs.Reviews.{count_held}
use Rattle.pm_model.specs.RightSet.{right_bits}
use Rattle.pm_review.proofs.surveys.count_held.Given as goal

abbrev pub invariant-loop-element : goal.invariant-loop-element
invariant-loop-element g l = record {
  so_far : l.count ≡ count_held (g.J.Judge.judgement l.source).rights (take l.element-index l.elements) l.user;
  few : l.count ≤ right_bits * l.element-index;
}
