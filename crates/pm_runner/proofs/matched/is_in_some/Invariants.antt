-- The target is in none of the elements of the words so far.
use Rattle.std.proofs.Common.{◌≡◌, ℕ, true, false, take}
use Rattle.pm_oblig.specs.Awaited.{in_words}
use Rattle.pm_runner.proofs.matched.is_in_some.Given as goal

abbrev pub invariant-loop-word : goal.invariant-loop-word
invariant-loop-word g l =
    let before = g.R.Reach.relation l.fn.reach in
    record {
      same : g.R.Reach.relation l.reach ≡ before;
      outside : (n : ℕ) → in_words (take l.word-index l.words) n ≡ true → before.below l.target n ≡ false;
    }
