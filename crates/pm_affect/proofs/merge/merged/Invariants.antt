-- With what is left of the row put into what is left of the list it is the whole.
use Rattle.std.proofs.Common.{◌≡◌, ◌+◌, ◌-◌, ◌++◌, drop, length}
use Rattle.pm_affect.specs.Puts.{put_all}
use Rattle.pm_affect.proofs.merge.merged.Given as goal

abbrev pub invariant-loop-n : goal.invariant-loop-n
invariant-loop-n l = l.all ++ put_all (drop l.n l.row) (drop l.i l.pairs) ≡ put_all l.row l.pairs

abbrev pub decreases-loop-n : goal.decreases-loop-n
decreases-loop-n l = (length l.pairs - l.i) + (length l.row - l.n)
