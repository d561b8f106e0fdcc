-- Words of zeros were added.
use Rattle.std.proofs.Common.{◌≡◌, ◌≤◌, ◌-◌, ℕ, vec_len, vec_capacity}
use Rattle.pm_reach.specs.Words.{in_row}
use Rattle.pm_reach.proofs.words.lengthen.Given as goal

abbrev pub invariant-loop-words : goal.invariant-loop-words
invariant-loop-words l = record {
  room : l.n ≤ vec_capacity l.words;
  same : (q : ℕ) → in_row l.words.items q ≡ in_row l.fn.words.items q;
}

abbrev pub decreases-loop-words : goal.decreases-loop-words
decreases-loop-words l = l.n - vec_len l.words
