-- Assignments as pairs of which none stands twice.
use Rattle.std.proofs.Common.{◌≡◌, ◌==◌, ℕ, List, [], ◌∷◌, length, Bool, true, false, not, refl, rules, eq-eqb, filter, Contains, inl, inr}
use Rattle.std.specs.List.{list_any}
use Rattle.std.proofs.lemmas.Bool.{cases_Bool, or_parts, and_parts, eqb-true, false_from_ne_true}
use Rattle.pm_model.specs.Effect.{is_pair, is_from, with_assignment}
use Rattle.pm_model.specs.Formed.{StandOnce}
use Rattle.pm_laws.proofs.Items.{filter-split, contains-first, contains-rest, contains-cases, contains-filter, filter-contains, none-at, none-from, any-found, any-from, contains-none}
use Rattle.pm_laws.proofs.Added.{added-split, has-added}

-- ---- the test of a pair

pub pair-itself : (x y : ℕ) → is_pair x y (x, y) ≡ true
pair-itself x y = rw (eq-eqb x x refl, eq-eqb y y refl) refl

pub pair-is : (x y : ℕ) (pair : ℕ × ℕ) → is_pair x y pair ≡ true → pair ≡ (x, y)
pair-is x y pair h =
    let p = and_parts (pair.0 == x) (pair.1 == y) h in
    let e = eqb-true pair.0 x p.0 in
    let f = eqb-true pair.1 y p.1 in rw (e, f) refl

-- a pair is found where it is in the list
pub assigned-is : (assigned : List (ℕ × ℕ)) (x y : ℕ) → list_any (is_pair x y) assigned ≡ true → Contains assigned (x, y)
assigned-is assigned x y h = let p = any-found (is_pair x y) assigned h in rw (pair-is x y p.0 p.2) at p.1

pub assigned-at : (assigned : List (ℕ × ℕ)) (x y : ℕ) → Contains assigned (x, y) → list_any (is_pair x y) assigned ≡ true
assigned-at assigned x y c = any-from (is_pair x y) assigned (x, y) c (pair-itself x y)

pub pair-swapped : (p q : ℕ × ℕ) → is_pair p.0 p.1 q ≡ false → is_pair q.0 q.1 p ≡ false
pair-swapped p q h =
    false_from_ne_true (is_pair q.0 q.1 p) (λ is.
    let same = pair-is q.0 q.1 p is in
    let yes : is_pair p.0 p.1 q ≡ true = rw same (pair-itself q.0 q.1) in cc)

-- ---- each pair stands once

pub once-added : (pairs : List (ℕ × ℕ)) (x y : ℕ) → StandOnce pairs → list_any (is_pair x y) pairs ≡ false →
    StandOnce (with_assignment (x, y) pairs)
once-added [] x y h free = (refl, tt)
once-added (p ∷ pairs) x y h free = added-split (x, y) StandOnce p pairs (free, h) (others, once-added pairs x y h.1 apart.1) where
  apart : (is_pair x y p ≡ false) × (list_any (is_pair x y) pairs ≡ false)
  apart = or_parts (is_pair x y p) (list_any (is_pair x y) pairs) free

  others : list_any (is_pair p.0 p.1) (with_assignment (x, y) pairs) ≡ false
  others = none-from (is_pair p.0 p.1) (with_assignment (x, y) pairs) (λ q c. elim (contains-cases (x, y) q pairs (has-added (x, y) pairs q c)) [
    | inl new ↦ rw (← new) (pair-swapped (x, y) p apart.0)
    | inr old ↦ none-at (is_pair p.0 p.1) pairs q h.0 old
  ])

pub once-filter : (test : (ℕ × ℕ) → Bool) (pairs : List (ℕ × ℕ)) → StandOnce pairs → StandOnce (filter test pairs)
once-filter test [] h = tt
once-filter test (p ∷ pairs) h = let rest = once-filter test pairs h.1 in
    filter-split test StandOnce p pairs (λ is. (others, rest)) (λ is. rest) where
      others : list_any (is_pair p.0 p.1) (filter test pairs) ≡ false
      others = none-from (is_pair p.0 p.1) (filter test pairs)
          (λ q c. none-at (is_pair p.0 p.1) pairs q h.0 (filter-contains test pairs q c).0)

-- ---- the assignments without a pair

abbrev pub without : ℕ → ℕ → List (ℕ × ℕ) → List (ℕ × ℕ)
without x y pairs = filter (λ pair. not (is_pair x y pair)) pairs

pub without-keeps : (x y : ℕ) (pairs : List (ℕ × ℕ)) (p : ℕ × ℕ) → Contains pairs p → is_pair x y p ≡ false →
    Contains (without x y pairs) p
without-keeps x y pairs p c other = contains-filter (λ pair. not (is_pair x y pair)) pairs p c (rw other refl)

-- an element with a container, and not with that one alone, has another
pub other-container : (x y : ℕ) (pairs : List (ℕ × ℕ)) → StandOnce pairs → list_any (is_pair x y) pairs ≡ true →
    (length (filter (is_from x) pairs) == 1) ≡ false → (z : ℕ) × Contains (without x y pairs) (x, z)
other-container x y pairs once stands many =
    of (filter (is_from x) pairs) its (once-filter (is_from x) pairs once) first many where
      its : (p : ℕ × ℕ) → Contains (filter (is_from x) pairs) p → Contains pairs p × (is_from x p ≡ true)
      its = filter-contains (is_from x) pairs

      first : Contains (filter (is_from x) pairs) (x, y)
      first = contains-filter (is_from x) pairs (x, y) (assigned-is pairs x y stands) (eq-eqb x x refl)

      kept : (p : ℕ × ℕ) → Contains pairs p × (is_from x p ≡ true) → is_pair x y p ≡ false →
          (z : ℕ) × Contains (without x y pairs) (x, z)
      kept p c other =
          let from : p.0 ≡ x = eqb-true p.0 x c.1 in
          let same : p ≡ (x, p.1) = rw from refl in
          (p.1, rw same at (without-keeps x y pairs p c.0 other))

      -- of two pairs from x one is another than (x, y)
      of : (from : List (ℕ × ℕ)) → ((p : ℕ × ℕ) → Contains from p → Contains pairs p × (is_from x p ≡ true)) → StandOnce from →
          Contains from (x, y) → (length from == 1) ≡ false → (z : ℕ) × Contains (without x y pairs) (x, z)
      of [] its once first many = contains-none (x, y) first
      of (p ∷ []) its once first many = absurd (search rules)
      of (p ∷ q ∷ rest) its once first many = elim (cases_Bool (is_pair x y p)) [
        | inl is ↦
            let apart = none-at (is_pair p.0 p.1) (q ∷ rest) q once.0 (contains-first q rest) in
            kept q (its q (contains-rest p q (q ∷ rest) (contains-first q rest))) (rw (pair-is x y p is) at apart)
        | inr other ↦ kept p (its p (contains-first p (q ∷ rest))) other
      ]
