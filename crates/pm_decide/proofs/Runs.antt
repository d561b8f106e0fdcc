-- A list that is lent in runs: what is left from a place on is the run that begins there, and then what is left behind it.
use Rattle.std.proofs.Common.{◌≡◌, ℕ, ◌+◌, ◌<◌, ◌≤◌, Bool, true, false, cond, List, [], ◌∷◌, ◌++◌, ◌||◌, length, take, drop, Option, Some, None, sym, ap, refl, ◌∙◌, arith, add_assoc, add-zero}
use Rattle.std.proofs.lemmas.List.{take-append-drop, drop-drop, length-take, length-drop}
use Rattle.std.specs.List.{position_from}
use Rattle.std.specs.Option.{option_map, option_or}

module _ {X : Type 0} (xs run : List X) (i : ℕ) (lent : run ≡ take (length run) (drop i xs)) where
  pub drop-run : drop i xs ≡ run ++ drop (i + length run) xs
  drop-run =
      sym (take-append-drop (length run) (drop i xs))
      ∙ ap (λ front. front ++ drop (length run) (drop i xs)) (sym lent)
      ∙ ap (λ rest. run ++ rest) (drop-drop (length run) i xs)

  -- the run ends within the list
  pub run-within : i < length xs → i + length run ≤ length xs
  run-within below =
      let long : length run ≤ length (drop i xs) = omega (arith, ap length lent, length-take (length run) (drop i xs)) in
      omega (arith, length-drop i xs)

  -- the answer over what is left is that of the run, and then of what is behind it
  pub or-run : (F : List X → Bool) → ((front rest : List X) → F (front ++ rest) ≡ (F front || F rest)) →
      F (drop i xs) ≡ (F run || F (drop (i + length run) xs))
  or-run F splits = ap F drop-run ∙ splits run (drop (i + length run) xs)

-- ---- the place of the first that passes

module _ {X : Type 0} (p : X → Bool) where
  place-shift : (n m : ℕ) (xs : List X) → position_from p (n + m) xs ≡ option_map (λ k. n + k) (position_from p m xs)
  place-shift n m [] = refl
  place-shift n m (x ∷ xs) = by_test (p x) (ap (λ k. position_from p k xs) (add_assoc n m 1) ∙ place-shift n (m + 1) xs) where
    by_test : (b : Bool) → position_from p (n + m + 1) xs ≡ option_map (λ k. n + k) (position_from p (m + 1) xs) →
        cond b (Some (n + m)) (position_from p (n + m + 1) xs) ≡ option_map (λ k. n + k) (cond b (Some m) (position_from p (m + 1) xs))
    by_test true rest = refl
    by_test false rest = rest

  place-shifted : (n : ℕ) (xs : List X) → position_from p n xs ≡ option_map (λ k. n + k) (position_from p 0 xs)
  place-shifted n xs = ap (λ k. position_from p k xs) (sym (add-zero n)) ∙ place-shift n 0 xs

  place-append : (n : ℕ) (front rest : List X) →
      position_from p n (front ++ rest) ≡ option_or (position_from p n front) (position_from p (n + length front) rest)
  place-append n [] rest = ap (λ k. position_from p k rest) (sym (add-zero n))
  place-append n (x ∷ front) rest =
      by_test (p x) (place-append (n + 1) front rest ∙ ap (λ k. option_or (position_from p (n + 1) front) (position_from p k rest)) (omega arith)) where
        by_test : (b : Bool) →
            position_from p (n + 1) (front ++ rest) ≡ option_or (position_from p (n + 1) front) (position_from p (n + length (x ∷ front)) rest) →
            cond b (Some n) (position_from p (n + 1) (front ++ rest))
            ≡ option_or (cond b (Some n) (position_from p (n + 1) front)) (position_from p (n + length (x ∷ front)) rest)
        by_test true later = refl
        by_test false later = later

  module _ (xs run : List X) (i : ℕ) (lent : run ≡ take (length run) (drop i xs)) (left : position_from p 0 xs ≡ position_from p i (drop i xs)) where
    -- in the run, at a place of its own, or behind it
    place-run : (found : Option ℕ) → found ≡ position_from p 0 run →
        position_from p 0 xs ≡ option_or (option_map (λ k. i + k) found) (position_from p (i + length run) (drop (i + length run) xs))
    place-run found is =
        left ∙ ap (position_from p i) (drop-run xs run i lent) ∙ place-append i run (drop (i + length run) xs)
        ∙ ap (λ o. option_or o (position_from p (i + length run) (drop (i + length run) xs)))
        (place-shifted i run ∙ ap (option_map (λ k. i + k)) (sym is))

    pub place-in : (k : ℕ) → Some k ≡ position_from p 0 run → Some (i + k) ≡ position_from p 0 xs
    place-in k found = sym (place-run (Some k) found)

    pub place-past : None ≡ position_from p 0 run → position_from p 0 xs ≡ position_from p (i + length run) (drop (i + length run) xs)
    place-past none = place-run None none
