use Rattle.std.proofs.Common.{◌≡◌, take}
use Rattle.pm_replies.specs.Numbered.{count_names}
use Rattle.pm_replies.proofs.numbers.count_names.Given as goal

abbrev pub invariant-loop-count : goal.invariant-loop-count
invariant-loop-count l = l.names ≡ count_names (take l.count-index l.list)
