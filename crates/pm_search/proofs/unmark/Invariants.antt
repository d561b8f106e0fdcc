-- Each mark that is set is one of those that are left.
use Rattle.std.proofs.Common.{◌≡◌, ◌==◌, ℕ, true, false, drop, get_or}
use Rattle.std.specs.List.{list_any}
use Rattle.pm_search.proofs.unmark.Given as goal

abbrev pub invariant-loop-n : goal.invariant-loop-n
invariant-loop-n l =
    (z : ℕ) → get_or l.marks z false ≡ true → list_any (λ n. n == z) (drop l.n-index l.marked) ≡ true
