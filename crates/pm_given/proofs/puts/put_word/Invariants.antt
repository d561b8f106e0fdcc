-- What is told so far, with the grants of the user attributes whose bits are left, is all.
use Rattle.std.proofs.Common.{◌≡◌, ◌||◌, ℕ, Option, length}
use Rattle.pm_decide.specs.Hits.{AreHolders, in_word, some_of}
use Rattle.pm_given.specs.Given.{some_at}
use Rattle.pm_given.specs.Told.{tells}
use Rattle.pm_given.proofs.puts.put_word.Given as goal

abbrev pub invariant-loop-left : goal.invariant-loop-left
invariant-loop-left g l =
    let all = g.G.Grants.grantees l.grants in
    record {
      own : length l.own ≡ length l.fn.own;
      marks : length l.marks ≡ length l.fn.marks;
      holders : AreHolders all l.k l.left;
      told : (q : Option ℕ) (p : ℕ) → (tells l.own l.marks q p || some_of (in_word l.k l.left) (some_at q p) all)
          ≡ (tells l.fn.own l.fn.marks q p || some_of (in_word l.k l.word) (some_at q p) all);
    }

abbrev pub decreases-loop-left : goal.decreases-loop-left
decreases-loop-left g l = l.left
