use Rattle.std.proofs.Common.{◌≡◌, take}
use Rattle.pm_replies.specs.Numbered.{counts_of}
use Rattle.pm_replies.proofs.numbers.counts.Given as goal

abbrev pub invariant-loop-count : goal.invariant-loop-count
invariant-loop-count l = l.counts ≡ counts_of (take l.count-index l.list)
