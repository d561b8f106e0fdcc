-- Lists walked through run by run.
use Rattle.std.proofs.Common.{◌≡◌, ℕ, ◌+◌, Bool, true, false, ◌||◌, List, ◌++◌, length, take, drop, map, filter, sym, ap, ◌∙◌, refl}
use Rattle.std.specs.List.{list_any}
use Rattle.std.proofs.lemmas.List.{take-append-drop, map-append}
use Rattle.std.proofs.Math.Seq.{take-add}
use Rattle.std.proofs.lemmas.List.Folds.{list_any-append}
use Rattle.std.proofs.lemmas.List.Elements.{filter-append}

split-true : (a b : Bool) → b ≡ true → (a || b) ≡ true
split-true true b is = refl
split-true false b is = is

module _ {X : Type 0} (xs r : List X) (i : ℕ) (stands : r ≡ take (length r) (drop i xs)) where
  -- what was walked through, with the run
  further : take (i + length r) xs ≡ take i xs ++ r
  further = take-add i (length r) xs ∙ ap (λ ys. take i xs ++ ys) (sym stands)

  parts : r ++ drop (length r) (drop i xs) ≡ drop i xs
  parts = ap (λ ys. ys ++ drop (length r) (drop i xs)) stands ∙ take-append-drop (length r) (drop i xs)

  pub any-found : (p : X → Bool) → list_any p r ≡ true → true ≡ list_any p xs
  any-found p is =
      let here : list_any p (drop i xs) ≡ true =
      ap (list_any p) (sym parts) ∙ list_any-append p r (drop (length r) (drop i xs)) ∙ ap (λ b. b || list_any p (drop (length r) (drop i xs))) is in
      sym (ap (list_any p) (sym (take-append-drop i xs)) ∙ list_any-append p (take i xs) (drop i xs) ∙ split-true (list_any p (take i xs)) (list_any p (drop i xs)) here)

  pub any-further : (p : X → Bool) → list_any p r ≡ false → list_any p (take i xs) ≡ false → list_any p (take (i + length r) xs) ≡ false
  any-further p none before = ap (list_any p) further ∙ list_any-append p (take i xs) r ∙ ap (λ b. b || list_any p r) before ∙ none

  pub kept-further : {Y : Type 0} (f : X → Y) (p : X → Bool) → map f (filter p (take (i + length r) xs)) ≡ map f (filter p (take i xs)) ++ map f (filter p r)
  kept-further f p = ap (λ ys. map f (filter p ys)) further ∙ ap (map f) (filter-append p (take i xs) r) ∙ map-append f (filter p (take i xs)) (filter p r)
