-- What is told so far, with the grants of the user attributes of the words that are left, is all.
use Rattle.std.proofs.Common.{◌≡◌, ◌||◌, ℕ, Option, length}
use Rattle.std.specs.List.{list_any}
use Rattle.pm_decide.specs.Hits.{some_of}
use Rattle.pm_decide.proofs.Hits.{from_word}
use Rattle.pm_given.specs.Given.{given, is_at, some_at}
use Rattle.pm_given.specs.Told.{tells}
use Rattle.pm_given.proofs.puts.put_given.Given as goal

abbrev pub invariant-loop-k : goal.invariant-loop-k
invariant-loop-k g l =
    let before = g.R.Reach.relation l.fn.reach in
    let all = g.G.Grants.grantees l.grants in
    record {
      same : g.R.Reach.relation l.reach ≡ before;
      own : length l.own ≡ length l.fn.own;
      marks : length l.marks ≡ length l.fn.marks;
      told : (q : Option ℕ) (p : ℕ) → (tells l.own l.marks q p || some_of (from_word before.below l.user l.k) (some_at q p) all)
          ≡ (tells l.fn.own l.fn.marks q p || list_any (is_at q p) (given before.below l.user all));
    }
