-- A list sought through run by run: the answer to all is the answer to what is left.
use Rattle.std.proofs.Common.{◌≡◌, ℕ, ◌+◌, ◌≤◌, Bool, true, false, ◌||◌, List, [], ◌∷◌, ◌++◌, length, take, drop, Option, None, Some, option_map, is_some, length-drop, refl, sym, ap, ◌∙◌, arith}
use Rattle.std.specs.List.{list_any, position_from}
use Rattle.std.proofs.lemmas.List.{take-append-drop, drop-drop, length-take}
use Rattle.std.proofs.lemmas.List.Folds.{list_any-append}
use Rattle.std.proofs.Math.ListN.{drop_of_length-le}

module _ {X : Type 0} (p : X → Bool) where
  -- places from n on are those from 0 on, moved by n
  moved : (n m : ℕ) (xs : List X) → position_from p (n + m) xs ≡ option_map (λ i. n + i) (position_from p m xs)
  moved n m [] = refl
  moved n m (x ∷ xs) = by (p x) refl (moved n (m + 1) xs) where
    by : (b : Bool) → p x ≡ b → position_from p (n + (m + 1)) xs ≡ option_map (λ i. n + i) (position_from p (m + 1) xs) →
        position_from p (n + m) (x ∷ xs) ≡ option_map (λ i. n + i) (position_from p m (x ∷ xs))
    by true is rest = rw is refl
    by false is rest = let e : n + m + 1 ≡ n + (m + 1) = omega arith in rw (is, e) rest

  found-before : (n k : ℕ) (xs ys : List X) → position_from p n xs ≡ Some k → position_from p n (xs ++ ys) ≡ Some k
  found-before n k [] ys is = cc
  found-before n k (x ∷ xs) ys is = by (p x) refl is (found-before (n + 1) k xs ys) where
    by : (b : Bool) → p x ≡ b → position_from p n (x ∷ xs) ≡ Some k
        → (position_from p (n + 1) xs ≡ Some k → position_from p (n + 1) (xs ++ ys) ≡ Some k)
        → position_from p n ((x ∷ xs) ++ ys) ≡ Some k
    by true here same rest = rw here (rw here at same)
    by false here same rest = rw here (rest (rw here at same))

  none-before : (n : ℕ) (xs ys : List X) → position_from p n xs ≡ None → position_from p n (xs ++ ys) ≡ position_from p (n + length xs) ys
  none-before n [] ys is = let e : n + 0 ≡ n = omega arith in rw e refl
  none-before n (x ∷ xs) ys is = by (p x) refl is (none-before (n + 1) xs ys) where
    by : (b : Bool) → p x ≡ b → position_from p n (x ∷ xs) ≡ None
        → (position_from p (n + 1) xs ≡ None → position_from p (n + 1) (xs ++ ys) ≡ position_from p (n + 1 + length xs) ys)
        → position_from p n ((x ∷ xs) ++ ys) ≡ position_from p (n + length (x ∷ xs)) ys
    by true here same rest = let impossible = rw here at same in cc
    by false here same rest = let e : n + length (x ∷ xs) ≡ n + 1 + length xs = omega arith in rw (here, e) (rest (rw here at same))

  module _ (xs r : List X) (i : ℕ) (stands : r ≡ take (length r) (drop i xs)) where
    parts : drop i xs ≡ r ++ drop (i + length r) xs
    parts = sym (take-append-drop (length r) (drop i xs)) ∙ ap (λ ys. ys ++ drop (length r) (drop i xs)) (sym stands) ∙ ap (λ ys. r ++ ys) (drop-drop (length r) i xs)

    from_here : (n : ℕ) → position_from p n r ≡ option_map (λ k. n + k) (position_from p 0 r)
    from_here n = let e : n + 0 ≡ n = omega arith in rw e at (moved n 0 r)

    pub place-in_run : (k : ℕ) → Some k ≡ position_from p 0 r → position_from p 0 xs ≡ position_from p i (drop i xs) → Some (i + k) ≡ position_from p 0 xs
    place-in_run k is left =
        sym (left ∙ ap (position_from p i) parts ∙ found-before i (i + k) r (drop (i + length r) xs) (from_here i ∙ ap (option_map (λ j. i + j)) (sym is)))

    pub place-behind_run : None ≡ position_from p 0 r → position_from p 0 xs ≡ position_from p i (drop i xs)
        → position_from p 0 xs ≡ position_from p (i + length r) (drop (i + length r) xs)
    place-behind_run none left =
        left ∙ ap (position_from p i) parts ∙ none-before i r (drop (i + length r) xs) (from_here i ∙ ap (option_map (λ j. i + j)) (sym none))

    split-any : list_any p (drop i xs) ≡ (list_any p r || list_any p (drop (i + length r) xs))
    split-any = ap (list_any p) parts ∙ list_any-append p r (drop (i + length r) xs)

    pub any-in_run : list_any p r ≡ true → list_any p xs ≡ list_any p (drop i xs) → true ≡ list_any p xs
    any-in_run is left = sym (left ∙ split-any ∙ ap (λ b. b || list_any p (drop (i + length r) xs)) is)

    pub any-behind_run : list_any p r ≡ false → list_any p xs ≡ list_any p (drop i xs) → list_any p xs ≡ list_any p (drop (i + length r) xs)
    any-behind_run isnt left = left ∙ split-any ∙ ap (λ b. b || list_any p (drop (i + length r) xs)) isnt

  pub no-place_left : (xs : List X) (i : ℕ) → length xs ≤ i → position_from p 0 xs ≡ position_from p i (drop i xs) → None ≡ position_from p 0 xs
  no-place_left xs i end left = sym (left ∙ ap (position_from p i) (drop_of_length-le xs end))

  pub none-left : (xs : List X) (i : ℕ) → length xs ≤ i → list_any p xs ≡ list_any p (drop i xs) → false ≡ list_any p xs
  none-left xs i end left = sym (left ∙ ap (list_any p) (drop_of_length-le xs end))

pub run_length : {X : Type 0} (xs r : List X) (i : ℕ) → r ≡ take (length r) (drop i xs) → i ≤ length xs → i + length r ≤ length xs
run_length xs r i stands within =
    let e = ap length stands in omega (arith, e, length-take (length r) (drop i xs), length-drop i xs)

pub is_some-place : {X : Type 0} (p : X → Bool) (n : ℕ) (xs : List X) → is_some (position_from p n xs) ≡ list_any p xs
is_some-place p n [] = refl
is_some-place p n (x ∷ xs) = by (p x) refl (is_some-place p (n + 1) xs) where
  by : (b : Bool) → p x ≡ b → is_some (position_from p (n + 1) xs) ≡ list_any p xs → is_some (position_from p n (x ∷ xs)) ≡ list_any p (x ∷ xs)
  by true is rest = rw is refl
  by false is rest = rw is rest
