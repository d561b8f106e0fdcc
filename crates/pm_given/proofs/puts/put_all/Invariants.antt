-- What is told so far, with the grants that are left, is all.
use Rattle.std.proofs.Common.{◌≡◌, ◌||◌, ℕ, Option, length, drop}
use Rattle.std.specs.List.{list_any}
use Rattle.pm_given.specs.Given.{is_at}
use Rattle.pm_given.specs.Told.{tells}
use Rattle.pm_given.proofs.puts.put_all.Given as goal

abbrev pub invariant-loop-grant : goal.invariant-loop-grant
invariant-loop-grant l = record {
  own : length l.own ≡ length l.fn.own;
  marks : length l.marks ≡ length l.fn.marks;
  told : (q : Option ℕ) (p : ℕ) → (tells l.own l.marks q p || list_any (is_at q p) (drop l.grant-index l.grants))
      ≡ (tells l.fn.own l.fn.marks q p || list_any (is_at q p) l.grants);
}
