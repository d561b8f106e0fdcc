-- Words of zeros were added.
use Rattle.std.proofs.Common.{◌≡◌, ◌≤◌, ◌-◌, ℕ, max, vec_len, vec_capacity}
use Rattle.pm_assoc.specs.Holders.{in_set}
use Rattle.pm_assoc.proofs.holders.lengthen.Given as goal

abbrev pub invariant-loop-words : goal.invariant-loop-words
invariant-loop-words l = record {
  room : l.n ≤ vec_capacity l.words;
  long : max (vec_len l.words) l.n ≡ max (vec_len l.fn.words) l.n;
  same : (q : ℕ) → in_set l.words.items q ≡ in_set l.fn.words.items q;
}

abbrev pub decreases-loop-words : goal.decreases-loop-words
decreases-loop-words l = l.n - vec_len l.words
