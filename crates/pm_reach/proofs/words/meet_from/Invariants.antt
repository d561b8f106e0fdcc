-- The words before i have nothing in common.
use Rattle.std.proofs.Common.{◌≡◌, ◌<◌, ◌≤◌, ◌/◌, ℕ, true, false}
use Rattle.pm_reach.specs.Words.{in_row}
use Rattle.pm_reach.proofs.words.meet_from.Given as goal

abbrev pub invariant-loop-i : goal.invariant-loop-i
invariant-loop-i l = (q : ℕ) → l.k ≤ q / 64 → q / 64 < l.i → in_row l.words q ≡ true → in_row l.other q ≡ false
