use Rattle.std.proofs.Common.{◌≡◌, take}
use Rattle.pm_review.proofs.surveys.list_of.Given as goal

abbrev pub invariant-loop-count : goal.invariant-loop-count
invariant-loop-count l = l.list ≡ take l.count-index l.counts
