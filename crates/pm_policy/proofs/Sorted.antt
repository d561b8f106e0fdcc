-- Sorting keeps the items of a list.
use Rattle.std.proofs.Common.{◌≡◌, ◌+◌, Bool, true, false, not, List, [], ◌∷◌, length, filter, Contains, ◌⊎◌, inl, inr, refl, subst, arith, if◌then◌else◌}
use Rattle.std.specs.List.{list_any}
use Rattle.std.proofs.lemmas.Bool.{cond_both, or_parts}
use Rattle.pm_laws.proofs.Items.{contains-first, contains-rest, contains-cases, filter-split, filter-contains, none-from, none-at}
use Rattle.pm_policy.specs.Order.{inserted, sorted}
use Rattle.pm_policy.specs.Sound.{AreOnce}

module _ {X : Type 0} (before : X → X → Bool) where
  split : (P : List X → Type 0) (x y : X) (ys : List X) → P (x ∷ y ∷ ys) → P (y ∷ inserted before x ys) → P (inserted before x (y ∷ ys))
  split P x y ys front behind = cond_both (before x y) (x ∷ y ∷ ys) (y ∷ inserted before x ys) P (λ is. front) (λ is. behind)

  pub inserted-has : (x : X) (xs : List X) (z : X) → Contains (x ∷ xs) z → Contains (inserted before x xs) z
  inserted-has x [] z c = c
  inserted-has x (y ∷ ys) z c = split (λ l. Contains l z) x y ys c (elim (contains-cases x z (y ∷ ys) c) [
    | inl new ↦ contains-rest y z (inserted before x ys) (inserted-has x ys z (subst (λ a. Contains (x ∷ ys) a) new (contains-first x ys)))
    | inr old ↦ elim (contains-cases y z ys old) [
      | inl first ↦ subst (λ a. Contains (y ∷ inserted before x ys) a) first (contains-first y (inserted before x ys))
      | inr below ↦ contains-rest y z (inserted before x ys) (inserted-has x ys z (contains-rest x z ys below))
    ]
  ])

  pub has-inserted : (x : X) (xs : List X) (z : X) → Contains (inserted before x xs) z → (x ≡ z) ⊎ Contains xs z
  has-inserted x [] z = λ c. contains-cases x z [] c
  has-inserted x (y ∷ ys) z = split (λ l. Contains l z → (x ≡ z) ⊎ Contains (y ∷ ys) z) x y ys (λ c. contains-cases x z (y ∷ ys) c)
      (λ c. elim (contains-cases y z (inserted before x ys) c) [
        | inl first ↦ inr (subst (λ a. Contains (y ∷ ys) a) first (contains-first y ys))
        | inr below ↦ elim (has-inserted x ys z below) [ inl new ↦ inl new | inr old ↦ inr (contains-rest y z ys old) ]
      ])

  pub length-inserted : (x : X) (xs : List X) → length (inserted before x xs) ≡ length xs + 1
  length-inserted x [] = omega arith
  length-inserted x (y ∷ ys) = let rest = length-inserted x ys in
      split (λ l. length l ≡ length (y ∷ ys) + 1) x y ys (omega arith) (omega (arith, rest))

  pub sorted-has : (xs : List X) (z : X) → Contains xs z → Contains (sorted before xs) z
  sorted-has [] z c = c
  sorted-has (x ∷ xs) z c = inserted-has x (sorted before xs) z (elim (contains-cases x z xs c) [
    | inl new ↦ subst (λ a. Contains (x ∷ sorted before xs) a) new (contains-first x (sorted before xs))
    | inr old ↦ contains-rest x z (sorted before xs) (sorted-has xs z old)
  ])

  pub has-sorted : (xs : List X) (z : X) → Contains (sorted before xs) z → Contains xs z
  has-sorted [] z c = c
  has-sorted (x ∷ xs) z c = elim (has-inserted x (sorted before xs) z c) [
    | inl new ↦ subst (λ a. Contains (x ∷ xs) a) new (contains-first x xs)
    | inr old ↦ contains-rest x z xs (has-sorted xs z old)
  ]

  pub length-sorted : (xs : List X) → length (sorted before xs) ≡ length xs
  length-sorted [] = refl
  length-sorted (x ∷ xs) = let rest = length-sorted xs in let l = length-inserted x (sorted before xs) in omega (arith, rest, l)

  module _ (alike : X → X → Bool) (both_ways : (a b : X) → alike a b ≡ false → alike b a ≡ false) where
    once-inserted : (x : X) (xs : List X) → AreOnce alike xs → list_any (alike x) xs ≡ false → AreOnce alike (inserted before x xs)
    once-inserted x [] h free = (refl, tt)
    once-inserted x (y ∷ ys) h free = split (AreOnce alike) x y ys (free, h) (others, once-inserted x ys h.1 apart.1) where
      apart : (alike x y ≡ false) × (list_any (alike x) ys ≡ false)
      apart = or_parts (alike x y) (list_any (alike x) ys) free

      others : list_any (alike y) (inserted before x ys) ≡ false
      others = none-from (alike y) (inserted before x ys) (λ z c. elim (has-inserted x ys z c) [
        | inl new ↦ subst (λ a. alike y a ≡ false) new (both_ways x y apart.0)
        | inr old ↦ none-at (alike y) ys z h.0 old
      ])

    pub once-sorted : (xs : List X) → AreOnce alike xs → AreOnce alike (sorted before xs)
    once-sorted [] h = tt
    once-sorted (x ∷ xs) h = once-inserted x (sorted before xs) (once-sorted xs h.1)
        (none-from (alike x) (sorted before xs) (λ z c. none-at (alike x) xs z h.0 (has-sorted xs z c)))

pub once-kept : {X : Type 0} (alike : X → X → Bool) (test : X → Bool) (xs : List X) → AreOnce alike xs → AreOnce alike (filter test xs)
once-kept alike test [] h = tt
once-kept alike test (x ∷ xs) h = filter-split test (AreOnce alike) x xs
    (λ is. (none-from (alike x) (filter test xs) (λ z c. none-at (alike x) xs z h.0 (filter-contains test xs z c).0), once-kept alike test xs h.1))
    (λ is. once-kept alike test xs h.1)

-- what a test keeps and what it leaves are all
pub length-parted : {X : Type 0} (test : X → Bool) (xs : List X) → length (filter test xs) + length (filter (λ x. not (test x)) xs) ≡ length xs
length-parted test [] = omega arith
length-parted test (x ∷ xs) = let rest = length-parted test xs in of (test x) (filter test xs) (filter (λ x. not (test x)) xs) rest where
  of : (b : Bool) (ys zs : List _) → length ys + length zs ≡ length xs →
      length (if b then x ∷ ys else ys) + length (if not b then x ∷ zs else zs) ≡ length (x ∷ xs)
  of true ys zs h = omega (arith, h)
  of false ys zs h = omega (arith, h)
