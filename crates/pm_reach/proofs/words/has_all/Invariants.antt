-- The words so far have nothing new.
use Rattle.std.proofs.Common.{◌≡◌, ◌<◌, ℕ, get_or, bit_or}
use Rattle.pm_reach.proofs.words.has_all.Given as goal

abbrev pub invariant-loop-i : goal.invariant-loop-i
invariant-loop-i l = (k : ℕ) → k < l.i → bit_or (get_or l.words k 0) (get_or l.other k 0) ≡ get_or l.words k 0
