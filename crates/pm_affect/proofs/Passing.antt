-- A test on a list where what comes or goes doesn't pass it.
use Rattle.std.proofs.Common.{◌≡◌, ℕ, zero, suc, Bool, true, false, List, [], ◌∷◌, ◌++◌, ◌||◌, ◌+◌, Some, append_assoc, drop, slice_get, filter, map, refl, sym, ◌∙◌, nat_lt}
use Rattle.std.specs.List.{list_any, remove}
use Rattle.std.proofs.lemmas.List.Folds.{list_any-append}
use Rattle.std.proofs.lemmas.Bool.{cond_both}
use Rattle.pm_model.proofs.Walks.{drop-item}
use Rattle.pm_model.specs.State.{is_class, classes_in}
use Rattle.pm_model.specs.Effect.{joined, placed}
use Rattle.pm_model.specs.declared.elements.Element.{Element}
use Rattle.pm_model.specs.declared.rights.Association.{Association}

or_nothing : (b : Bool) → (b || false) ≡ b
or_nothing true = refl
or_nothing false = refl

-- one more at the end
pub any-push : {X : Type 0} (test : X → Bool) (xs : List X) (x : X) → test x ≡ false → list_any test (xs ++ x ∷ []) ≡ list_any test xs
any-push test xs x fails = rw (list_any-append test xs (x ∷ []), fails) (or_nothing (list_any test xs))

-- one less, at its place
pub any-remove : {X : Type 0} (test : X → Bool) (xs : List X) (i : ℕ) (x : X) → slice_get xs i ≡ Some x → test x ≡ false →
    list_any test (remove xs i) ≡ list_any test xs
any-remove test [] i x h fails = absurd (cc)
any-remove test (y ∷ xs) zero x h fails = let same : y ≡ x = cc in rw (same, fails) refl
any-remove test (y ∷ xs) (suc i) x h fails = rw (any-remove test xs i x h fails) refl

-- without those that fail a second test
pub any-filter : {X : Type 0} (test keep : X → Bool) (xs : List X) → ((x : X) → keep x ≡ false → test x ≡ false) →
    list_any test (filter keep xs) ≡ list_any test xs
any-filter test keep [] h = refl
any-filter test keep (x ∷ xs) h = cond_both (keep x) (x ∷ filter keep xs) (filter keep xs) (λ l. list_any test l ≡ list_any test (x ∷ xs))
    (λ is. rw (any-filter test keep xs h) refl)
    (λ out. rw (any-filter test keep xs h, h x out) refl)

-- an association more
pub any-joined : (test : Association → Bool) (a : Association) (bs : List Association) → test a ≡ false →
    list_any test (joined a bs) ≡ list_any test bs
any-joined test a [] fails = rw fails refl
any-joined test a (b ∷ bs) fails = cond_both (nat_lt a.ua b.ua) (a ∷ b ∷ bs) (b ∷ joined a bs) (λ l. list_any test l ≡ list_any test (b ∷ bs))
    (λ is. rw fails refl)
    (λ is. rw (any-joined test a bs fails) refl)

-- ---- classes that pass a test of numbers

module _ (test : ℕ → Bool) where
  abbrev picked : List Element → List ℕ
  picked es = filter test (classes_in es)

  picked-first : (x : Element) (es : List Element) → test x.number ≡ false → picked (x ∷ es) ≡ picked es
  picked-first x es fails = cond_both (is_class x) (x ∷ filter is_class es) (filter is_class es)
      (λ l. filter test (map (λ (e : Element). e.number) l) ≡ picked es) (λ is. rw fails refl) (λ is. refl)

  picked-rest : (x : Element) (es fs : List Element) → picked es ≡ picked fs → picked (x ∷ es) ≡ picked (x ∷ fs)
  picked-rest x es fs h = go (is_class x) refl where
    go : (b : Bool) → is_class x ≡ b → picked (x ∷ es) ≡ picked (x ∷ fs)
    go true is = rw (is, h) refl
    go false is = rw (is, h) refl

  -- an element more, whose number fails
  pub picked-placed : (x : Element) (es : List Element) → test x.number ≡ false → picked (placed x es) ≡ picked es
  picked-placed x [] fails = picked-first x [] fails
  picked-placed x (e ∷ es) fails = cond_both (nat_lt x.number e.number) (x ∷ e ∷ es) (e ∷ placed x es) (λ l. picked l ≡ picked (e ∷ es))
      (λ is. picked-first x (e ∷ es) fails)
      (λ is. picked-rest e (placed x es) es (picked-placed x es fails))

  -- without elements whose numbers fail
  pub picked-filter : (keep : Element → Bool) (es : List Element) → ((x : Element) → keep x ≡ false → test x.number ≡ false) →
      picked (filter keep es) ≡ picked es
  picked-filter keep [] h = refl
  picked-filter keep (x ∷ es) h = cond_both (keep x) (x ∷ filter keep es) (filter keep es) (λ l. picked l ≡ picked (x ∷ es))
      (λ is. picked-rest x (filter keep es) es (picked-filter keep es h))
      (λ out. picked-filter keep es h ∙ sym (picked-first x es (h x out)))

-- those that pass so far and those among what is left
module _ (test : ℕ → Bool) (xs : List ℕ) (i x : ℕ) (so_far : List ℕ) (at : slice_get xs i ≡ Some x) where
  pub filter-here : true ≡ test x → (so_far ++ x ∷ []) ++ filter test (drop (i + 1) xs) ≡ so_far ++ filter test (drop i xs)
  filter-here passes = rw (drop-item xs i x at, ← passes) (append_assoc so_far (x ∷ []) (filter test (drop (i + 1) xs)))

  pub filter-later : false ≡ test x → so_far ++ filter test (drop (i + 1) xs) ≡ so_far ++ filter test (drop i xs)
  filter-later fails = rw (drop-item xs i x at, ← fails) refl
