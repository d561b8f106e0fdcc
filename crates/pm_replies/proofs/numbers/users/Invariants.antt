use Rattle.std.proofs.Common.{◌≡◌, ◌++◌, drop}
use Rattle.pm_replies.specs.Numbered.{numbers_from}
use Rattle.pm_replies.proofs.numbers.users.Given as goal

abbrev pub invariant-loop-i : goal.invariant-loop-i
invariant-loop-i l = l.users ++ numbers_from l.i (drop l.i l.list) ≡ numbers_from 0 l.list
