-- One item more of a list that is gone through.
use Rattle.std.proofs.Common.{◌≡◌, ◌≤◌, ◌<◌, ◌+◌, ℕ, zero, suc, Bool, List, [], ◌∷◌, ◌++◌, length, map, take, drop, filter, get_or, slice_get, Some, if◌then◌else◌, refl, sym, ◌∙◌, ap, arith, append_assoc}
use Rattle.std.proofs.lemmas.List.{append-nil, drop-append-le, length-take, map-append, take_more}
use Rattle.std.proofs.lemmas.List.Elements.{filter-append}
use Rattle.std.proofs.lemmas.Option.{get_or_from_slice_get, slice_get_within}
use Rattle.pm_drawing.specs.Gathered.{gathered}

pub take-past : {X : Type 0} (n : ℕ) (xs : List X) → length xs ≤ n → take n xs ≡ xs
take-past zero [] h = refl
take-past (suc n) [] h = refl
take-past zero (x ∷ xs) h = absurd (omega (arith, h))
take-past (suc n) (x ∷ xs) h = ap (λ l. x ∷ l) (take-past n xs (omega (arith, h)))

pub drop-past : {X : Type 0} (n : ℕ) (xs : List X) → length xs ≤ n → drop n xs ≡ []
drop-past zero [] h = refl
drop-past (suc n) [] h = refl
drop-past zero (x ∷ xs) h = absurd (omega (arith, h))
drop-past (suc n) (x ∷ xs) h = drop-past n xs (omega (arith, h))

module _ {X : Type 0} (xs : List X) (k : ℕ) (x : X) where
  take-step : k < length xs → x ≡ get_or xs k x → take k xs ++ x ∷ [] ≡ take (k + 1) xs
  take-step below is = ap (λ y. take k xs ++ y ∷ []) is ∙ sym (take_more xs k x below)

  take-get : slice_get xs k ≡ Some x → take k xs ++ x ∷ [] ≡ take (k + 1) xs
  take-get is = take-step (slice_get_within xs k x is) (sym (get_or_from_slice_get xs k x x is))

  pub drop-step : (n : ℕ) (old new : List X) → n ≤ k → slice_get xs k ≡ Some x → old ≡ drop n (take k xs) → new ≡ old ++ x ∷ [] →
      new ≡ drop n (take (k + 1) xs)
  drop-step n old new later is before pushed =
      let below = slice_get_within xs k x is in
      let l = length-take k xs in
      pushed ∙ ap (λ l. l ++ x ∷ []) before ∙ sym (drop-append-le n (take k xs) (x ∷ []) (omega (arith, l, below, later)))
      ∙ ap (λ l. drop n l) (take-get is)

  pub filter-step : (test : X → Bool) (b : Bool) (old new : List X) → slice_get xs k ≡ Some x → test x ≡ b → old ≡ filter test (take k xs) →
      new ≡ old ++ (if b then x ∷ [] else []) → new ≡ filter test (take (k + 1) xs)
  filter-step test b old new is passes before pushed =
      pushed ∙ ap (λ l. l ++ (if b then x ∷ [] else [])) before
      ∙ ap (λ c. filter test (take k xs) ++ (if c then x ∷ [] else [])) (sym passes)
      ∙ sym (filter-append test (take k xs) (x ∷ [])) ∙ ap (λ l. filter test l) (take-get is)

  module _ {Y : Type 0} (f : X → Y) where
    pushed-step : (base old new : List Y) → take k xs ++ x ∷ [] ≡ take (k + 1) xs → old ≡ base ++ map f (take k xs) → new ≡ old ++ f x ∷ [] →
        new ≡ base ++ map f (take (k + 1) xs)
    pushed-step base old new more before pushed =
        pushed ∙ ap (λ l. l ++ f x ∷ []) before ∙ append_assoc base (map f (take k xs)) (f x ∷ [])
        ∙ ap (λ l. base ++ l) (sym (map-append f (take k xs) (x ∷ []))) ∙ ap (λ l. base ++ map f l) more

    -- the item that is got at its place
    pub got-step : (base old new : List Y) → slice_get xs k ≡ Some x → old ≡ base ++ map f (take k xs) → new ≡ old ++ f x ∷ [] →
        new ≡ base ++ map f (take (k + 1) xs)
    got-step base old new is = pushed-step base old new (take-get is)

    pub behind-step : (base old new : List Y) → k < length xs → x ≡ get_or xs k x → old ≡ base ++ map f (take k xs) → new ≡ old ++ f x ∷ [] →
        new ≡ base ++ map f (take (k + 1) xs)
    behind-step base old new below is = pushed-step base old new (take-step below is)

    pub map-step : (old new : List Y) → k < length xs → x ≡ get_or xs k x → old ≡ map f (take k xs) → new ≡ old ++ f x ∷ [] →
        new ≡ map f (take (k + 1) xs)
    map-step old new below is = pushed-step [] old new (take-step below is)

    pub kept-step : (test : X → Bool) (old new : List Y) → k < length xs → x ≡ get_or xs k x → old ≡ map f (filter test (take k xs)) →
        new ≡ old ++ map f (filter test (x ∷ [])) → new ≡ map f (filter test (take (k + 1) xs))
    kept-step test old new below is before pushed =
        pushed ∙ ap (λ l. l ++ map f (filter test (x ∷ []))) before
        ∙ sym (map-append f (filter test (take k xs)) (filter test (x ∷ [])))
        ∙ ap (λ l. map f l) (sym (filter-append test (take k xs) (x ∷ [])))
        ∙ ap (λ l. map f (filter test l)) (take-step below is)

-- ---- what is gathered

module _ {X : Type 0} (is_of : ℕ → X → Bool) (xs : List X) where
  gathered-push : (ns : List ℕ) (n : ℕ) → gathered is_of ns xs ++ filter (is_of n) xs ≡ gathered is_of (ns ++ n ∷ []) xs
  gathered-push [] n = sym (append-nil (filter (is_of n) xs))
  gathered-push (m ∷ ns) n =
      append_assoc (filter (is_of m) xs) (gathered is_of ns xs) (filter (is_of n) xs) ∙ ap (λ l. filter (is_of m) xs ++ l) (gathered-push ns n)

  pub gathered-step : (ns : List ℕ) (k n : ℕ) (old new : List X) → k < length ns → n ≡ get_or ns k n → old ≡ gathered is_of (take k ns) xs →
      new ≡ old ++ filter (is_of n) xs → new ≡ gathered is_of (take (k + 1) ns) xs
  gathered-step ns k n old new below is before pushed =
      pushed ∙ ap (λ l. l ++ filter (is_of n) xs) before ∙ gathered-push (take k ns) n ∙ ap (λ l. gathered is_of l xs) (take-step ns k n below is)
