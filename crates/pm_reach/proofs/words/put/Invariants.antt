-- The numbers so far are in the row.
use Rattle.std.proofs.Common.{◌≡◌, ◌==◌, ℕ, take, length}
use Rattle.std.specs.List.{list_any}
use Rattle.pm_reach.specs.Words.{in_row}
use Rattle.pm_reach.proofs.words.put.Given as goal

abbrev pub invariant-loop-n : goal.invariant-loop-n
invariant-loop-n l = record {
  long : length l.words ≡ length l.fn.words;
  held : (q : ℕ) → in_row l.words q ≡ list_any (λ n. n == q) (take l.n-index l.numbers);
}
