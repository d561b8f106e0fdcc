-- Lists in which no two items are alike, from the first item on.
use Rattle.std.proofs.Common.{◌≡◌, ◌<◌, ◌+◌, ◌||◌, ℕ, Bool, true, false, not, List, [], ◌∷◌, ◌++◌, length, map, take, drop, get_or, suc, refl, sym, ap, ◌∙◌, bytes_eq, arith}
use Rattle.std.specs.List.{list_any}
use Rattle.std.specs.Cmp.{IsEquivalence}
use Rattle.std.proofs.lemmas.Bool.{or_parts}
use Rattle.std.proofs.Math.Seq.{drop-cons}
use Rattle.std.proofs.lemmas.List.{map-append, take-append-drop, take_more}
use Rattle.std.proofs.lemmas.Slice.Eq.{bytes_eq-Decides}
use Rattle.std.proofs.lemmas.List.Folds.{list_any-append}
use Rattle.std.proofs.lemmas.List.Elements.{Contains-append_right}
use Rattle.indexmap.specs.IndexSet.{insert_key}
use Rattle.pm_laws.proofs.Items.{contains-first, none-at}
use Rattle.pm_model.specs.Formed.{NameOnce}
use Rattle.pm_policy.specs.Sound.{AreOnce}
use Rattle.pm_policy.proofs.Ordered.{same-name}

or_none : (b : Bool) → (b || false) ≡ b
or_none true = refl
or_none false = refl

-- the item at a place, between those before it and those behind it
pub parted : {X : Type 0} (xs : List X) (i : ℕ) (x : X) → i < length xs → x ≡ get_or xs i x → take i xs ++ x ∷ drop (i + 1) xs ≡ xs
parted xs i x below is =
    let next : suc i ≡ i + 1 = omega arith in
    let rest : drop i xs ≡ x ∷ drop (i + 1) xs = drop-cons xs i x below ∙ rw (← is, next) refl in
    ap (λ l. take i xs ++ l) (sym rest) ∙ take-append-drop i xs

pub pushed : {X : Type 0} (xs : List X) (i : ℕ) (x : X) → i < length xs → x ≡ get_or xs i x → take (i + 1) xs ≡ take i xs ++ x ∷ []
pushed xs i x below is = take_more xs i x below ∙ ap (λ y. take i xs ++ y ∷ []) (sym is)

pub bytes-swapped : (a b : List ℕ) → bytes_eq a b ≡ bytes_eq b a
bytes-swapped a b = of (bytes_eq a b) (bytes_eq b a) refl refl where
  of : (p q : Bool) → bytes_eq a b ≡ p → bytes_eq b a ≡ q → p ≡ q
  of true true is also = refl
  of false false is also = refl
  of true false is also = absurd (let yes = (bytes_eq-Decides b a).1 (sym (same-name a b is)) in cc)
  of false true is also = absurd (let yes = (bytes_eq-Decides a b).1 (sym (same-name b a also)) in cc)

-- one item more
pub any-push : {X : Type 0} (test : X → Bool) (xs : List X) (x : X) → list_any test (xs ++ x ∷ []) ≡ (list_any test xs || test x)
any-push test xs x = list_any-append test xs (x ∷ []) ∙ ap (λ b. list_any test xs || b) (or_none (test x))

-- by keys
pub any-key : {X K : Type 0} (test : K → Bool) (key : X → K) (xs : List X) → list_any test (map key xs) ≡ list_any (λ x. test (key x)) xs
any-key test key [] = refl
any-key test key (x ∷ xs) = ap (λ b. test (key x) || b) (any-key test key xs)

module _ {X : Type 0} (alike : X → X → Bool) (swapped : (x y : X) → alike x y ≡ alike y x) where
  pub once-push : (xs : List X) (x : X) → AreOnce alike xs → list_any (alike x) xs ≡ false → AreOnce alike (xs ++ x ∷ [])
  once-push [] x h free = (refl, tt)
  once-push (y ∷ xs) x h free =
      let parts = or_parts (alike x y) (list_any (alike x) xs) free in
      let other : alike y x ≡ false = swapped y x ∙ parts.0 in
      (any-push (alike y) xs x ∙ rw (h.0, other) refl, once-push xs x h.1 parts.1)

  -- an item is like none before it
  pub once-apart : (xs : List X) (x : X) (rest : List X) → AreOnce alike (xs ++ x ∷ rest) → list_any (alike x) xs ≡ false
  once-apart [] x rest h = refl
  once-apart (y ∷ xs) x rest h =
      let other : alike x y ≡ false = swapped x y ∙ none-at (alike y) (xs ++ x ∷ rest) x h.0 (Contains-append_right xs (x ∷ rest) x (contains-first x rest)) in
      rw (other, once-apart xs x rest h.1) refl

-- names of rights
pub name-once : (names : List (List ℕ)) → NameOnce names → AreOnce bytes_eq names
name-once [] h = tt
name-once (n ∷ ns) h = (h.0, name-once ns h.1)

-- the keys that a set has seen
module _ {X K : Type 0} (eq : K → K → Bool) (laws : IsEquivalence eq) (key : X → K) where
  abbrev alike : X → X → Bool
  alike x y = eq (key x) (key y)

  swapped : (x y : X) → alike x y ≡ alike y x
  swapped x y = laws.symm (key x) (key y)

  -- a new one
  pub seen-keys : (xs : List X) (x : X) → list_any (eq (key x)) (map key xs) ≡ false → insert_key eq (map key xs) (key x) ≡ map key (xs ++ x ∷ [])
  seen-keys xs x new = rw new (sym (map-append key xs (x ∷ [])))

  pub seen-once : (xs : List X) (x : X) → AreOnce alike xs → list_any (eq (key x)) (map key xs) ≡ false → AreOnce alike (xs ++ x ∷ [])
  seen-once xs x h new = once-push alike swapped xs x h (sym (any-key (eq (key x)) key xs) ∙ new)

  -- one that was seen
  pub seen-twice : (xs : List X) (x : X) (rest : List X) → list_any (eq (key x)) (map key xs) ≡ true → AreOnce alike (xs ++ x ∷ rest) → ⊥
  seen-twice xs x rest old h =
      let no = once-apart alike swapped xs x rest h in
      let yes : list_any (alike x) xs ≡ true = sym (any-key (eq (key x)) key xs) ∙ old in cc

pub was-seen : (added seen : Bool) → added ≡ not seen → added ≡ false → seen ≡ true
was-seen added true is h = refl
was-seen added false is h = absurd (cc)

pub was-new : (added seen : Bool) → added ≡ not seen → added ≡ true → seen ≡ false
was-new added true is h = absurd (cc)
was-new added false is h = refl
