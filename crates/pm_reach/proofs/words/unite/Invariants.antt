-- The words so far are joined, and the others are as they were.
use Rattle.std.proofs.Common.{◌≡◌, ℕ, ◌<◌, ◌≤◌, get_or, bit_or}
use Rattle.pm_reach.proofs.words.unite.Given as goal

abbrev pub invariant-loop-i : goal.invariant-loop-i
invariant-loop-i l = record {
  joined : (k : ℕ) → k < l.i → get_or l.into k 0 ≡ bit_or (get_or l.fn.into k 0) (get_or l.from k 0);
  rest : (k : ℕ) → l.i ≤ k → get_or l.into k 0 ≡ get_or l.fn.into k 0;
}
