-- How a run of calls of a disk goes on.
use Rattle.std.proofs.Common.{inl, inr, ⊎_elim, ◌≡◌, ◌⊎◌, ℕ, List, sym, subst, arith}
use Rattle.pm_disk.specs.Disks.{Each, Elapses, Leaves}

module _ {D : Type 0} (moment : D → ℕ) (left_since : D → ℕ → List ℕ → Type 0) where
  -- before the first call
  pub started : (old : D) (P : List ℕ → Type 0) → Each (left_since old (moment old)) P → Leaves moment left_since old old P
  started old P here = record { later = omega arith; each = here; before = λ t c le left. inl left }

  -- one call more, after which a crash leaves what has P
  pub goes_on : (old mid new : D) (P images : List ℕ → Type 0) → Leaves moment left_since old mid P
      → Elapses (moment mid) (moment new) (left_since mid) (left_since new) images → Each images P → Leaves moment left_since old new P
  goes_on old mid new P images so_far time here = record {
    later = omega (arith, so_far.later, time.later);
    each = λ c left. ⊎_elim (so_far.each c) (here c) (time.nothing_else (moment old) c so_far.later left);
    before = λ t c le left. ⊎_elim (so_far.before t c le) (λ now. inr (here c now)) (time.nothing_else t c (omega (arith, le, so_far.later)) left);
  }

  -- one run, and then another
  pub and_then : (old mid new : D) (P : List ℕ → Type 0) → Leaves moment left_since old mid P → Leaves moment left_since mid new P → Leaves moment left_since old new P
  and_then old mid new P one two = record {
    later = omega (arith, one.later, two.later);
    each = λ c left. ⊎_elim (one.each c) (λ p. p) (two.before (moment old) c one.later left);
    before = λ t c le left. ⊎_elim (one.before t c le) (λ p. inr p) (two.before t c (omega (arith, le, one.later)) left);
  }

  pub weakly : (old new : D) (P Q : List ℕ → Type 0) → ((c : List ℕ) → P c → Q c) → Leaves moment left_since old new P → Leaves moment left_since old new Q
  weakly old new P Q less one = record {
    later = one.later;
    each = λ c left. less c (one.each c left);
    before = λ t c le left. ⊎_elim (λ was. inl was) (λ p. inr (less c p)) (one.before t c le left);
  }

  -- a write, and nothing else
  pub once : (may_leave : D → List ℕ → Type 0) (old new : D) (P : List ℕ → Type 0) → Each (left_since old (moment old)) (may_leave old)
      → Elapses (moment old) (moment new) (left_since old) (left_since new) (may_leave new) → Each (may_leave new) P → Each (may_leave old) P
      → Each (may_leave new) P × Leaves moment left_since old new P
  once may_leave old new P only time after here = (after, goes_on old old new P (may_leave new) (started old P (λ c left. here c (only c left))) time after)

  -- and then a sync
  pub twice : (may_leave : D → List ℕ → Type 0) (old mid new : D) (P : List ℕ → Type 0) → Each (may_leave mid) P × Leaves moment left_since old mid P
      → Elapses (moment mid) (moment new) (left_since mid) (left_since new) (may_leave new) → Each (may_leave new) (may_leave mid)
      → Each (may_leave new) P × Leaves moment left_since old new P
  twice may_leave old mid new P first time less =
      let after : Each (may_leave new) P = λ c left. first.0 c (less c left) in
      (after, goes_on old mid new P (may_leave new) first.1 time after)
