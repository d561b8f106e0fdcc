-- The assignments that the slots hold, and what a write of a slot makes of them.
use Rattle.std.proofs.Common.{◌≡◌, ◌≢◌, ℕ, zero, suc, ◌+◌, ◌<◌, ◌≤◌, Bool, true, false, not, List, [], ◌∷◌, ◌++◌, length, append_assoc, append-nil, set, filter, Option, None, refl, sym, ap, ◌∙◌, arith, cond, eqb}
use Rattle.std.proofs.lemmas.Bool.{ne_eqb, eq-eqb, lt-ltb, le-ltb}
use Rattle.std.proofs.lemmas.List.{map-append}
use Rattle.std.proofs.lemmas.List.Elements.{filter-append}
use Rattle.pm_model.specs.Containment.{containers}
use Rattle.pm_model.specs.Effect.{is_pair, is_from, with_assignment}
use Rattle.pm_elements.specs.declared.slots.Slot.{Slot}
use Rattle.pm_elements.specs.Slots.{slot_at, parents_of, each_from, pairs_from, pairs_of}
use Rattle.pm_elements.proofs.Pairs.{containers-append}

-- ---- what one element is assigned to

containers-each_same : (n : ℕ) (ys : List ℕ) → containers (each_from n ys) n ≡ ys
containers-each_same n [] = refl
containers-each_same n (y ∷ ys) = rw (eq-eqb n n refl) (ap (λ (l : List ℕ). y ∷ l) (containers-each_same n ys))

containers-each_other : (n m : ℕ) (ys : List ℕ) → n ≢ m → containers (each_from n ys) m ≡ []
containers-each_other n m [] h = refl
containers-each_other n m (y ∷ ys) h = rw (ne_eqb n m h) (containers-each_other n m ys h)

containers-above : (n m : ℕ) (slots : List (Option Slot)) → m < n → containers (pairs_from n slots) m ≡ []
containers-above n m [] h = refl
containers-above n m (o ∷ slots) h =
    let other : n ≢ m = omega arith in
    containers-append (each_from n (parents_of o)) (pairs_from (n + 1) slots) m
    ∙ rw (containers-each_other n m (parents_of o) other) (containers-above (n + 1) m slots (omega arith))

containers_from : (n k m : ℕ) (slots : List (Option Slot)) → m ≡ n + k → containers (pairs_from n slots) m ≡ parents_of (slot_at slots k)
containers_from n k m [] e = refl
containers_from n zero m (o ∷ slots) e =
    let same : m ≡ n = omega arith in
    containers-append (each_from n (parents_of o)) (pairs_from (n + 1) slots) m
    ∙ rw (containers-above (n + 1) m slots (omega arith), same, containers-each_same n (parents_of o)) (append-nil (parents_of o))
containers_from n (suc k) m (o ∷ slots) e =
    let other : n ≢ m = omega arith in
    containers-append (each_from n (parents_of o)) (pairs_from (n + 1) slots) m
    ∙ rw (containers-each_other n m (parents_of o) other) (containers_from (n + 1) k m slots (omega arith))

pub containers_held : (slots : List (Option Slot)) (x : ℕ) → containers (pairs_of slots) x ≡ parents_of (slot_at slots x)
containers_held slots x = containers_from 0 x x slots (omega arith)

-- ---- one more

with-behind : (m n y : ℕ) (zs : List ℕ) (rest : List (ℕ × ℕ)) → n ≤ m → with_assignment (m, y) (each_from n zs ++ rest) ≡ each_from n zs ++ with_assignment (m, y) rest
with-behind m n y [] rest h = refl
with-behind m n y (z ∷ zs) rest h = rw (le-ltb m n h) (ap (λ (l : List (ℕ × ℕ)). (n, z) ∷ l) (with-behind m n y zs rest h))

with-before : (m n y : ℕ) (slots : List (Option Slot)) → m < n → with_assignment (m, y) (pairs_from n slots) ≡ (m, y) ∷ pairs_from n slots
with-before m n y [] h = refl
with-before m n y (o ∷ slots) h = go (parents_of o) (with-before m (n + 1) y slots (omega arith)) where
  go : (zs : List ℕ) → with_assignment (m, y) (pairs_from (n + 1) slots) ≡ (m, y) ∷ pairs_from (n + 1) slots → with_assignment (m, y) (each_from n zs ++ pairs_from (n + 1) slots) ≡ (m, y) ∷ (each_from n zs ++ pairs_from (n + 1) slots)
  go [] rest = rest
  go (z ∷ zs) rest = rw (lt-ltb m n h) refl

added_from : (n k m y : ℕ) (o : Option Slot) (slots : List (Option Slot)) → m ≡ n + k → k < length slots → parents_of o ≡ parents_of (slot_at slots k) ++ y ∷ []
    → pairs_from n (set slots k o) ≡ with_assignment (m, y) (pairs_from n slots)
added_from n k m y o [] e h more = absurd (omega arith)
added_from n zero m y o (p ∷ slots) e h more =
    let same : m ≡ n = omega arith in
    rw (more, same, with-behind n n y (parents_of p) (pairs_from (n + 1) slots) (omega arith), with-before n (n + 1) y slots (omega arith), map-append {B = ℕ × ℕ} (λ (z : ℕ). (n, z)) (parents_of p) (y ∷ []))
    (append_assoc (each_from n (parents_of p)) ((n, y) ∷ []) (pairs_from (n + 1) slots))
added_from n (suc k) m y o (p ∷ slots) e h more =
    rw (with-behind m n y (parents_of p) (pairs_from (n + 1) slots) (omega arith))
    (ap (λ (l : List (ℕ × ℕ)). each_from n (parents_of p) ++ l) (added_from (n + 1) k m y o slots (omega arith) (omega arith) more))

-- a slot with one container more
pub pairs-added : (k y : ℕ) (o : Option Slot) (slots : List (Option Slot)) → k < length slots → parents_of o ≡ parents_of (slot_at slots k) ++ y ∷ []
    → pairs_of (set slots k o) ≡ with_assignment (k, y) (pairs_of slots)
pairs-added k y o slots h more = added_from 0 k k y o slots (omega arith) h more

-- ---- no more, and no less

same_from : (n k : ℕ) (o : Option Slot) (slots : List (Option Slot)) → parents_of o ≡ parents_of (slot_at slots k) → pairs_from n (set slots k o) ≡ pairs_from n slots
same_from n k o [] same = refl
same_from n zero o (p ∷ slots) same = rw same refl
same_from n (suc k) o (p ∷ slots) same = ap (λ (l : List (ℕ × ℕ)). each_from n (parents_of p) ++ l) (same_from (n + 1) k o slots same)

-- a slot with the same containers
pub pairs-same : (k : ℕ) (o : Option Slot) (slots : List (Option Slot)) → parents_of o ≡ parents_of (slot_at slots k) → pairs_of (set slots k o) ≡ pairs_of slots
pairs-same k o slots same = same_from 0 k o slots same

pushed_from : (n : ℕ) (slots : List (Option Slot)) → pairs_from n (slots ++ None ∷ []) ≡ pairs_from n slots
pushed_from n [] = refl
pushed_from n (o ∷ slots) = ap (λ (l : List (ℕ × ℕ)). each_from n (parents_of o) ++ l) (pushed_from (n + 1) slots)

-- a free slot more
pub pairs-pushed : (slots : List (Option Slot)) → pairs_of (slots ++ None ∷ []) ≡ pairs_of slots
pairs-pushed slots = pushed_from 0 slots

-- ---- less: a test that the assignments of all numbers but m pass

module _ (test : (ℕ × ℕ) → Bool) (m : ℕ) (others : (n y : ℕ) → n ≢ m → test (n, y) ≡ true) where
  keep_other : (n : ℕ) (ys : List ℕ) → n ≢ m → filter test (each_from n ys) ≡ each_from n ys
  keep_other n [] h = refl
  keep_other n (y ∷ ys) h = rw (others n y h) (ap (λ (l : List (ℕ × ℕ)). (n, y) ∷ l) (keep_other n ys h))

  keep_above : (n : ℕ) (slots : List (Option Slot)) → m < n → filter test (pairs_from n slots) ≡ pairs_from n slots
  keep_above n [] h = refl
  keep_above n (o ∷ slots) h =
      let other : n ≢ m = omega arith in
      filter-append test (each_from n (parents_of o)) (pairs_from (n + 1) slots)
      ∙ rw (keep_other n (parents_of o) other, keep_above (n + 1) slots (omega arith)) refl

  less_from : (n k : ℕ) (o : Option Slot) (slots : List (Option Slot)) → m ≡ n + k → filter test (each_from m (parents_of (slot_at slots k))) ≡ each_from m (parents_of o)
      → pairs_from n (set slots k o) ≡ filter test (pairs_from n slots)
  less_from n k o [] e less = refl
  less_from n zero o (p ∷ slots) e less =
      let same : n ≡ m = omega arith in
      sym (filter-append test (each_from n (parents_of p)) (pairs_from (n + 1) slots) ∙ rw (keep_above (n + 1) slots (omega arith), same, less) refl)
  less_from n (suc k) o (p ∷ slots) e less =
      let other : n ≢ m = omega arith in
      sym (filter-append test (each_from n (parents_of p)) (pairs_from (n + 1) slots)
      ∙ rw (keep_other n (parents_of p) other, ← less_from (n + 1) k o slots (omega arith) less) refl)

each-without : (x y : ℕ) (zs : List ℕ) → filter (λ pair. not (is_pair x y pair)) (each_from x zs) ≡ each_from x (filter (λ z. not (eqb z y)) zs)
each-without x y [] = refl
each-without x y (z ∷ zs) = rw (eq-eqb x x refl) (go (eqb z y) (each-without x y zs)) where
  go : (b : Bool) → filter (λ pair. not (is_pair x y pair)) (each_from x zs) ≡ each_from x (filter (λ w. not (eqb w y)) zs)
      → cond (not b) ((x, z) ∷ filter (λ pair. not (is_pair x y pair)) (each_from x zs)) (filter (λ pair. not (is_pair x y pair)) (each_from x zs))
      ≡ each_from x (cond (not b) (z ∷ filter (λ w. not (eqb w y)) zs) (filter (λ w. not (eqb w y)) zs))
  go true rest = rest
  go false rest = ap (λ (l : List (ℕ × ℕ)). (x, z) ∷ l) rest

-- a slot with one container less
pub pairs-less : (k y : ℕ) (o : Option Slot) (slots : List (Option Slot)) → parents_of o ≡ filter (λ z. not (eqb z y)) (parents_of (slot_at slots k))
    → pairs_of (set slots k o) ≡ filter (λ pair. not (is_pair k y pair)) (pairs_of slots)
pairs-less k y o slots less =
    less_from (λ pair. not (is_pair k y pair)) k (λ n z other. rw (ne_eqb n k other) refl) 0 k o slots (omega arith)
    (each-without k y (parents_of (slot_at slots k)) ∙ ap (each_from k) (sym less))

each-none : (n : ℕ) (ys : List ℕ) → filter (λ pair. not (is_from n pair)) (each_from n ys) ≡ []
each-none n [] = refl
each-none n (y ∷ ys) = rw (eq-eqb n n refl) (each-none n ys)

-- a slot that is free now
pub pairs-freed : (k : ℕ) (slots : List (Option Slot)) → pairs_of (set slots k None) ≡ filter (λ pair. not (is_from k pair)) (pairs_of slots)
pairs-freed k slots =
    less_from (λ pair. not (is_from k pair)) k (λ n z other. rw (ne_eqb n k other) refl) 0 k None slots (omega arith)
    (each-none k (parents_of (slot_at slots k)))
