-- The first item that passes a test, its place, and what stands there.
use Rattle.std.proofs.Common.{◌≡◌, ℕ, ◌<◌, Bool, true, false, cond, List, length, slice_get, get_or, None, Some, refl, sym, ap, ◌∙◌, arith}
use Rattle.std.proofs.Math.Dec.{ltb}
use Rattle.std.specs.List.{find, position_from, position_or_len}
use Rattle.std.proofs.lemmas.Iterator.Adapters.{position_from-zero}
use Rattle.std.proofs.lemmas.List.Folds.{find_at}
use Rattle.std.proofs.lemmas.List.Sums.{passes_at_first}
use Rattle.std.proofs.lemmas.Option.{slice_get_past, get_or_from_slice_get}
use Rattle.std.proofs.lemmas.Bool.{ltb-true, ltb-false}

module _ {X : Type 0} (p : X → Bool) (xs : List X) where
  pub first-at : (i : ℕ) → position_from p 0 xs ≡ Some i → (i ≡ position_or_len p xs) × (i < length xs)
  first-at i is = of (ltb (position_or_len p xs) (length xs)) refl (position_from-zero p xs ∙ is) where
    of : (b : Bool) → ltb (position_or_len p xs) (length xs) ≡ b → cond b (Some (position_or_len p xs)) None ≡ Some i → (i ≡ position_or_len p xs) × (i < length xs)
    of true t e = let same : i ≡ position_or_len p xs = cc in (same, omega (arith, same, ltb-true (position_or_len p xs) (length xs) t))
    of false t e = cc

  pub none-found : position_from p 0 xs ≡ None → find p xs ≡ None
  none-found is = of (ltb (position_or_len p xs) (length xs)) refl (position_from-zero p xs ∙ is) where
    of : (b : Bool) → ltb (position_or_len p xs) (length xs) ≡ b → cond b (Some (position_or_len p xs)) None ≡ None → find p xs ≡ None
    of true t e = cc
    of false t e = find_at p xs ∙ slice_get_past xs (position_or_len p xs) (ltb-false (position_or_len p xs) (length xs) t)

  pub found-at : (i : ℕ) → position_from p 0 xs ≡ Some i → find p xs ≡ slice_get xs i
  found-at i is = find_at p xs ∙ ap (slice_get xs) (sym (first-at i is).0)

  pub passes-at : (i : ℕ) (x : X) → position_from p 0 xs ≡ Some i → slice_get xs i ≡ Some x → p x ≡ true
  passes-at i x is stands =
      let first = first-at i is in
      let place = first.0 in
      let under = first.1 in
      let below : position_or_len p xs < length xs = omega (arith, place, under) in
      ap p (sym (get_or_from_slice_get xs i x x stands)) ∙ ap (λ k. p (get_or xs k x)) place ∙ passes_at_first p xs x below
