-- Pages by what a test says of their items.
use Rattle.std.proofs.Common.{◌≡◌, ◌≤◌, ℕ, zero, suc, Bool, true, false, not, ◌||◌, ◌&&◌, ◌==◌, List, [], ◌∷◌, ◌++◌, length, map, slice_get, Some, cond, refl, sym, ap, ◌∙◌, arith}
use Rattle.std.specs.List.{list_all, list_any, filter}
use Rattle.std.proofs.lemmas.List.Elements.{filter-append}
use Rattle.std.proofs.lemmas.Option.{slice_get_within, same_Some, none-some}
use Rattle.std.proofs.lemmas.Bool.{eqb-true}
use Rattle.pm_pages.specs.Listed.{items_of, is_own, listed, all_own, marks_of, marks, owned, is_ready, owned_where, spared, has_items}
use Rattle.pm_pages.specs.declared.pages.Page.{Page}
use Rattle.pm_pages.specs.declared.pages.Page.TheVariants.{Own, Shared}
use Rattle.pm_pages.proofs.Changed.{no_items}
use Rattle.pm_pages.proofs.Owning.{all_marked, length-marks_of}

or-true : (a : Bool) → (a || true) ≡ true
or-true true = refl
or-true false = refl

or-not : (a b : Bool) → (a || not b) ≡ true → b ≡ true → a ≡ true
or-not true b r h = refl
or-not false b r h = sym (ap not h) ∙ r

left-false : (a b : Bool) → (a || b) ≡ false → a ≡ false
left-false true b h = h
left-false false b h = refl

right-false : (a b : Bool) → (a || b) ≡ false → b ≡ false
right-false true b h = absurd (grind (arith, h))
right-false false b h = h

left-true : (a b : Bool) → (a && b) ≡ true → a ≡ true
left-true true b h = refl
left-true false b h = h

right-true : (a b : Bool) → (a && b) ≡ true → b ≡ true
right-true true b h = h
right-true false b h = absurd (grind (arith, h))

both-true : (a b : Bool) → a ≡ true → b ≡ true → (a && b) ≡ true
both-true a b e d = rw (e, d) refl

not-true : (b : Bool) → not b ≡ true → b ≡ false
not-true true h = sym h
not-true false h = refl

any_found : {A : Type 0} (test : A → Bool) (xs : List A) (i : ℕ) (x : A) → slice_get xs i ≡ Some x → test x ≡ true → list_any test xs ≡ true
any_found test [] i x e t = absurd (none-some x e)
any_found test (y ∷ xs) zero x e t = ap (λ b. b || list_any test xs) (ap test (same_Some y x e) ∙ t)
any_found test (y ∷ xs) (suc i) x e t = ap (λ b. test y || b) (any_found test xs i x e t) ∙ or-true (test y)

filter_none : {A : Type 0} (test : A → Bool) (xs : List A) → list_any test xs ≡ false → filter (λ x. not (test x)) xs ≡ xs
filter_none test [] e = refl
filter_none test (x ∷ xs) e =
    let no = left-false (test x) (list_any test xs) e in
    ap (λ b. cond (not b) (x ∷ filter (λ y. not (test y)) xs) (filter (λ y. not (test y)) xs)) no ∙ ap (λ ys. x ∷ ys) (filter_none test xs (right-false (test x) (list_any test xs) e))

pub length_kept : {A : Type 0} (p : A → Bool) (xs : List A) → length (filter p xs) ≤ length xs
length_kept p [] = omega arith
length_kept p (x ∷ xs) = go (p x) (length_kept p xs) where
  go : (b : Bool) → length (filter p xs) ≤ length xs → length (cond b (x ∷ filter p xs) (filter p xs)) ≤ suc (length xs)
  go true l = omega (arith, l)
  go false l = omega (arith, l)

all_kept : {A : Type 0} (test p : A → Bool) (xs : List A) → list_all test xs ≡ true → list_all test (filter p xs) ≡ true
all_kept test p [] h = refl
all_kept test p (x ∷ xs) h = go (p x) (all_kept test p xs (right-true (test x) (list_all test xs) h)) where
  go : (b : Bool) → list_all test (filter p xs) ≡ true → list_all test (cond b (x ∷ filter p xs) (filter p xs)) ≡ true
  go true rest = both-true (test x) (list_all test (filter p xs)) (left-true (test x) (list_all test xs) h) rest
  go false rest = rest

-- ---- items that pass the test, and the marks of their pages

module _ {A : Type 0} (test : A → Bool) where
  abbrev IsMarked : List A → List Bool → Type 0
  IsMarked xs ms = (i : ℕ) (x : A) → slice_get xs i ≡ Some x → test x ≡ true → slice_get ms i ≡ Some true

  marked-append : (xs ys : List A) (ms ns : List Bool) → length xs ≡ length ms → IsMarked xs ms → IsMarked ys ns → IsMarked (xs ++ ys) (ms ++ ns)
  marked-append [] ys [] ns l a b i x e t = b i x e t
  marked-append [] ys (m ∷ ms) ns l a b i x e t = absurd (omega (arith, l))
  marked-append (z ∷ xs) ys [] ns l a b i x e t = absurd (omega (arith, l))
  marked-append (z ∷ xs) ys (m ∷ ms) ns l a b zero x e t = a zero x e t
  marked-append (z ∷ xs) ys (m ∷ ms) ns l a b (suc i) x e t = marked-append xs ys ms ns (omega (arith, l)) (λ n. a (suc n)) b i x e t

  marked-left : (xs ys : List A) (ms ns : List Bool) → length xs ≡ length ms → IsMarked (xs ++ ys) (ms ++ ns) → IsMarked xs ms
  marked-left [] ys ms ns l a i x e t = absurd (none-some x e)
  marked-left (z ∷ xs) ys [] ns l a i x e t = absurd (omega (arith, l))
  marked-left (z ∷ xs) ys (m ∷ ms) ns l a zero x e t = a zero x e t
  marked-left (z ∷ xs) ys (m ∷ ms) ns l a (suc i) x e t = marked-left xs ys ms ns (omega (arith, l)) (λ n. a (suc n)) i x e t

  marked-right : (xs ys : List A) (ms ns : List Bool) → length xs ≡ length ms → IsMarked (xs ++ ys) (ms ++ ns) → IsMarked ys ns
  marked-right [] ys [] ns l a i x e t = a i x e t
  marked-right [] ys (m ∷ ms) ns l a i x e t = absurd (omega (arith, l))
  marked-right (z ∷ xs) ys [] ns l a i x e t = absurd (omega (arith, l))
  marked-right (z ∷ xs) ys (m ∷ ms) ns l a i x e t = marked-right xs ys ms ns (omega (arith, l)) (λ n. a (suc n)) i x e t

  ready-marked : (xs : List A) (b : Bool) → IsMarked xs (map (λ _. b) xs) → (b || not (list_any test xs)) ≡ true
  ready-marked [] b a = or-true b
  ready-marked (x ∷ xs) b a = go (test x) refl (ready-marked xs b (λ n. a (suc n))) where
    go : (t : Bool) → test x ≡ t → (b || not (list_any test xs)) ≡ true → (b || not (t || list_any test xs)) ≡ true
    go true t rest = ap (λ c. c || false) (same_Some b true (a zero x refl t))
    go false t rest = rest

module _ {T : Type 0} (test : T → Bool) where
  ready-page : (p : Page T) → is_ready test p ≡ true → IsMarked test (items_of p) (marks_of p)
  ready-page p r i x e t =
      all_marked (items_of p) (is_own p) i (or-not (is_own p) (list_any test (items_of p)) r (any_found test (items_of p) i x e t)) (slice_get_within (items_of p) i x e)

  pub own-ready : (ps : List (Page T)) → list_all (is_ready test) ps ≡ true → IsMarked test (listed ps) (marks ps)
  own-ready [] r i x e t = absurd (none-some x e)
  own-ready (p ∷ ps) r i x e t =
      marked-append test (items_of p) (listed ps) (marks_of p) (marks ps) (sym (length-marks_of p))
      (ready-page p (left-true (is_ready test p) (list_all (is_ready test) ps) r)) (own-ready ps (right-true (is_ready test p) (list_all (is_ready test) ps) r)) i x e t

  pub ready-own : (ps : List (Page T)) → IsMarked test (listed ps) (marks ps) → list_all (is_ready test) ps ≡ true
  ready-own [] o = refl
  ready-own (p ∷ ps) o =
      let l = sym (length-marks_of p) in
      both-true (is_ready test p) (list_all (is_ready test) ps)
      (ready-marked test (items_of p) (is_own p) (marked-left test (items_of p) (listed ps) (marks_of p) (marks ps) l o))
      (ready-own ps (marked-right test (items_of p) (listed ps) (marks_of p) (marks ps) l o))

  -- ---- a page made own

  pub items_where : (p : Page T) → items_of (owned_where test p) ≡ items_of p
  items_where p = go (list_any test (items_of p)) where
    go : (b : Bool) → items_of (cond b (owned p) p) ≡ items_of p
    go true = refl
    go false = refl

  pub own_where : (p : Page T) → is_own p ≡ true → is_own (owned_where test p) ≡ true
  own_where p o = go (list_any test (items_of p)) where
    go : (b : Bool) → is_own (cond b (owned p) p) ≡ true
    go true = refl
    go false = o

  pub ready_where : (p : Page T) → is_ready test (owned_where test p) ≡ true
  ready_where p = go (list_any test (items_of p)) refl where
    go : (b : Bool) → list_any test (items_of p) ≡ b → is_ready test (cond b (owned p) p) ≡ true
    go true e = refl
    go false e = ap (λ c. is_own p || not c) e ∙ or-true (is_own p)

  pub where-some : (p : Page T) → list_any test (items_of p) ≡ true → owned p ≡ owned_where test p
  where-some p e = ap (λ b. cond b (owned p) p) (sym e)

  pub where-none : (p : Page T) → list_any test (items_of p) ≡ false → p ≡ owned_where test p
  where-none p e = ap (λ b. cond b (owned p) p) (sym e)

  -- ---- items taken out

  items-spared : (p : Page T) → is_ready test p ≡ true → items_of (spared test p) ≡ filter (λ x. not (test x)) (items_of p)
  items-spared (Own block) r = refl
  items-spared (Shared a) r = sym (filter_none test (items_of (Shared a)) (not-true (list_any test (items_of (Shared a))) r))

  listed-spared : (ps : List (Page T)) → list_all (is_ready test) ps ≡ true → listed (map (spared test) ps) ≡ filter (λ x. not (test x)) (listed ps)
  listed-spared [] r = refl
  listed-spared (p ∷ ps) r =
      ap (λ xs. xs ++ listed (map (spared test) ps)) (items-spared p (left-true (is_ready test p) (list_all (is_ready test) ps) r))
      ∙ ap (λ xs. filter (λ x. not (test x)) (items_of p) ++ xs) (listed-spared ps (right-true (is_ready test p) (list_all (is_ready test) ps) r))
      ∙ sym (filter-append (λ x. not (test x)) (items_of p) (listed ps))

  own-spared : (ps : List (Page T)) → all_own ps ≡ true → all_own (map (spared test) ps) ≡ true
  own-spared [] h = refl
  own-spared (Own block ∷ ps) h = own-spared ps h
  own-spared (Shared a ∷ ps) h = h

  length-spared : (ps : List (Page T)) → length (map (spared test) ps) ≡ length ps
  length-spared [] = refl
  length-spared (p ∷ ps) = ap suc (length-spared ps)

  listed-full : (ps : List (Page T)) → listed (filter has_items ps) ≡ listed ps
  listed-full [] = refl
  listed-full (p ∷ ps) = go (length (items_of p) == 0) refl (listed-full ps) where
    go : (b : Bool) → (length (items_of p) == 0) ≡ b → listed (filter has_items ps) ≡ listed ps → listed (cond (not b) (p ∷ filter has_items ps) (filter has_items ps)) ≡ items_of p ++ listed ps
    go true e rest = rest ∙ ap (λ xs. xs ++ listed ps) (sym (no_items (items_of p) (eqb-true _ 0 e)))
    go false e rest = ap (λ xs. items_of p ++ xs) rest

  pub listed-passed : (ps : List (Page T)) → list_all (is_ready test) ps ≡ true → listed (filter has_items (map (spared test) ps)) ≡ filter (λ x. not (test x)) (listed ps)
  listed-passed ps r = listed-full (map (spared test) ps) ∙ listed-spared ps r

  pub own-passed : (ps : List (Page T)) → all_own ps ≡ true → all_own (filter has_items (map (spared test) ps)) ≡ true
  own-passed ps h = all_kept is_own has_items (map (spared test) ps) (own-spared ps h)

  pub length-passed : (ps : List (Page T)) → length (filter has_items (map (spared test) ps)) ≤ length ps
  length-passed ps = let l = length_kept has_items (map (spared test) ps) in let m = length-spared ps in omega (arith, l, m)
