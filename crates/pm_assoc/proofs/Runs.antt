-- A list sought through run by run: the answer to all is the answer to what is left.
use Rattle.std.proofs.Common.{◌≡◌, ℕ, ◌+◌, Bool, true, false, ◌||◌, List, ◌++◌, length, take, drop, sym, ap, ◌∙◌}
use Rattle.std.specs.List.{list_any}
use Rattle.std.proofs.lemmas.List.{take-append-drop, drop-drop}
use Rattle.std.proofs.lemmas.List.Folds.{list_any-append}

module _ {X : Type 0} (p : X → Bool) (xs : List X) (i : ℕ) where
  module _ (r : List X) (stands : r ≡ take (length r) (drop i xs)) (left : list_any p xs ≡ list_any p (drop i xs)) where
    parts : drop i xs ≡ r ++ drop (i + length r) xs
    parts =
        sym (take-append-drop (length r) (drop i xs)) ∙ ap (λ ys. ys ++ drop (length r) (drop i xs)) (sym stands)
        ∙ ap (λ ys. r ++ ys) (drop-drop (length r) i xs)

    split : list_any p xs ≡ (list_any p r || list_any p (drop (i + length r) xs))
    split = left ∙ ap (list_any p) parts ∙ list_any-append p r (drop (i + length r) xs)

    pub any-in_run : list_any p r ≡ true → true ≡ list_any p xs
    any-in_run found = sym (split ∙ ap (λ b. b || list_any p (drop (i + length r) xs)) found)

    pub any-behind_run : list_any p r ≡ false → list_any p xs ≡ list_any p (drop (i + length r) xs)
    any-behind_run none = split ∙ ap (λ b. b || list_any p (drop (i + length r) xs)) none
