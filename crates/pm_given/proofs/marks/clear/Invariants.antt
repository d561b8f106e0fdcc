-- The words so far are empty, and the others as they were.
use Rattle.std.proofs.Common.{◌≡◌, ◌<◌, ◌≤◌, ℕ, length, get_or}
use Rattle.pm_given.proofs.marks.clear.Given as goal

abbrev pub invariant-loop-i : goal.invariant-loop-i
invariant-loop-i l = record {
  empty : (k : ℕ) → k < l.i → get_or l.words k 0 ≡ 0;
  rest : (k : ℕ) → l.i ≤ k → get_or l.words k 0 ≡ get_or l.fn.words k 0;
  long : length l.words ≡ length l.fn.words;
}
