use Rattle.std.proofs.Common.{◌≡◌, take}
use Rattle.pm_replies.specs.Numbered.{pair_names}
use Rattle.pm_replies.proofs.numbers.pair_names.Given as goal

abbrev pub invariant-loop-pair : goal.invariant-loop-pair
invariant-loop-pair l = l.names ≡ pair_names (take l.pair-index l.list)
