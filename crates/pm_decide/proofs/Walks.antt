-- One step of a walk over a list by its index: an answer over what is left, before and after the item.
use Rattle.std.proofs.Common.{◌≡◌, ℕ, ◌+◌, Bool, true, false, List, [], ◌∷◌, Some, Option, drop, ◌&&◌, ◌||◌, not, cond, filter, refl, ◌∙◌, slice_get, is_some}
use Rattle.std.specs.List.{list_any, list_all, find, position_from}
use Rattle.pm_model.proofs.Walks.{drop-item}

-- the answer over what is left is that of the item, and then of those after it
pub any-drop : {X : Type 0} (p : X → Bool) (xs : List X) (i : ℕ) (x : X) → slice_get xs i ≡ Some x →
    list_any p (drop i xs) ≡ (p x || list_any p (drop (i + 1) xs))
any-drop p xs i x is = rw (drop-item xs i x is) refl

pub all-drop : {X : Type 0} (f p : X → Bool) (xs : List X) (i : ℕ) (x : X) → slice_get xs i ≡ Some x →
    list_all p (filter f (drop i xs)) ≡ ((not (f x) || p x) && list_all p (filter f (drop (i + 1) xs)))
all-drop f p xs i x is = rw (drop-item xs i x is) (by_test (f x)) where
  by_test : (b : Bool) → list_all p (cond b (x ∷ filter f (drop (i + 1) xs)) (filter f (drop (i + 1) xs)))
      ≡ ((not b || p x) && list_all p (filter f (drop (i + 1) xs)))
  by_test true = refl
  by_test false = refl

pub any-yes : {X : Type 0} (p : X → Bool) (xs : List X) (i : ℕ) (x : X) → list_any p xs ≡ list_any p (drop i xs) →
    slice_get xs i ≡ Some x → true ≡ p x → true ≡ list_any p xs
any-yes p xs i x rest is passes = rw (rest, drop-item xs i x is, ← passes)

pub any-no : {X : Type 0} (p : X → Bool) (xs : List X) (i : ℕ) (x : X) → list_any p xs ≡ list_any p (drop i xs) →
    slice_get xs i ≡ Some x → false ≡ p x → list_any p xs ≡ list_any p (drop (i + 1) xs)
any-no p xs i x rest is fails = rest ∙ rw (drop-item xs i x is, ← fails) refl

pub all-yes : {X : Type 0} (p : X → Bool) (xs : List X) (i : ℕ) (x : X) → list_all p xs ≡ list_all p (drop i xs) →
    slice_get xs i ≡ Some x → true ≡ p x → list_all p xs ≡ list_all p (drop (i + 1) xs)
all-yes p xs i x rest is passes = rest ∙ rw (drop-item xs i x is, ← passes) refl

pub all-no : {X : Type 0} (p : X → Bool) (xs : List X) (i : ℕ) (x : X) → list_all p xs ≡ list_all p (drop i xs) →
    slice_get xs i ≡ Some x → false ≡ p x → false ≡ list_all p xs
all-no p xs i x rest is fails = rw (rest, drop-item xs i x is, ← fails)

-- the place of the first that passes
pub place-yes : {X : Type 0} (p : X → Bool) (xs : List X) (i : ℕ) (x : X) → position_from p 0 xs ≡ position_from p i (drop i xs) →
    slice_get xs i ≡ Some x → true ≡ p x → Some i ≡ position_from p 0 xs
place-yes p xs i x rest is passes = rw (rest, drop-item xs i x is, ← passes)

pub place-no : {X : Type 0} (p : X → Bool) (xs : List X) (i : ℕ) (x : X) → position_from p 0 xs ≡ position_from p i (drop i xs) →
    slice_get xs i ≡ Some x → false ≡ p x → position_from p 0 xs ≡ position_from p (i + 1) (drop (i + 1) xs)
place-no p xs i x rest is fails = rest ∙ rw (drop-item xs i x is, ← fails) refl

-- one is found that fails exactly where not all pass
pub found-by_all : {X : Type 0} (p : X → Bool) (xs : List X) → is_some (find (λ x. not (p x)) xs) ≡ not (list_all p xs)
found-by_all p [] = refl
found-by_all p (x ∷ xs) = by_test (p x) (find (λ x. not (p x)) xs) (list_all p xs) x (found-by_all p xs) where
  by_test : {X : Type 0} (b : Bool) (f : Option X) (t : Bool) (x : X) → is_some f ≡ not t → is_some (cond (not b) (Some x) f) ≡ not (b && t)
  by_test true f t x e = e
  by_test false f t x e = refl
