-- Lists of assignments: one more, those of one element, and how many pass a test.
use Rattle.std.proofs.Common.{◌≡◌, ℕ, ◌+◌, ◌<◌, ◌≤◌, Bool, true, false, not, List, [], ◌∷◌, ◌++◌, length, filter, map, Some, slice_get, refl, sym, ap, ◌∙◌, arith, cond, eqb, ◌||◌, ◌&&◌, ltb, nat_lt, zero, suc, zero-add}
use Rattle.std.specs.List.{list_any, count_by}
use Rattle.std.proofs.lemmas.Bool.{eq-eqb, true≢false, eqb-true, lt-ltb, ltb-true, ltb-false, cond_both}
use Rattle.std.proofs.lemmas.List.{map-append}
use Rattle.std.proofs.lemmas.List.Elements.{filter-append}
use Rattle.std.proofs.lemmas.List.Filters.{sum_by-filter_both}
use Rattle.std.proofs.lemmas.List.Sums.{sum_by-cons}
use Rattle.pm_model.specs.Containment.{containers}
use Rattle.pm_model.specs.Effect.{is_pair, is_to, with_assignment}

-- ---- how many pass a test

pub count-cons : {X : Type 0} (p : X → Bool) (x : X) (xs : List X) → count_by p (x ∷ xs) ≡ cond (p x) 1 0 + count_by p xs
count-cons p x xs = sum_by-cons (λ y. cond (p y) 1 0) x xs

pub any-count : {X : Type 0} (p : X → Bool) (xs : List X) → list_any p xs ≡ ltb 0 (count_by p xs)
any-count p [] = refl
any-count p (x ∷ xs) = go (p x) (any-count p xs) ∙ ap (ltb 0) (sym (count-cons p x xs)) where
  go : (b : Bool) → list_any p xs ≡ ltb 0 (count_by p xs) → (b || list_any p xs) ≡ ltb 0 (cond b 1 0 + count_by p xs)
  go true rest = sym (lt-ltb 0 (1 + count_by p xs) (omega arith))
  go false rest = rw zero-add rest

-- of those that pass one test, where that decides the other
pub count-decided : {X : Type 0} (p q : X → Bool) (b : Bool) → ((x : X) → q x ≡ true → p x ≡ b) → (xs : List X) → count_by p (filter q xs) ≡ cond b (count_by q xs) 0
count-decided p q true decided [] = refl
count-decided p q false decided [] = refl
count-decided {X} p q b decided (x ∷ xs) = go (q x) b refl (decided x) (count-decided p q b decided xs) ∙ ap (λ n. cond b n 0) (sym (count-cons q x xs)) where
  go : (a c : Bool) → q x ≡ a → (q x ≡ true → p x ≡ c) → count_by p (filter q xs) ≡ cond c (count_by q xs) 0
      → count_by p (cond a (x ∷ filter q xs) (filter q xs)) ≡ cond c (cond a 1 0 + count_by q xs) 0
  go true true is d rest = omega (arith, rest, (rw (d is) at (count-cons p x (filter q xs))))
  go true false is d rest = omega (arith, rest, (rw (d is) at (count-cons p x (filter q xs))))
  go false true is d rest = omega (arith, rest)
  go false false is d rest = rest

pub count-map : {X Y : Type 0} (f : X → Y) (p : Y → Bool) (xs : List X) → count_by p (map f xs) ≡ count_by (λ x. p (f x)) xs
count-map f p [] = refl
count-map f p (x ∷ xs) = count-cons p (f x) (map f xs) ∙ ap (λ n. cond (p (f x)) 1 0 + n) (count-map f p xs) ∙ sym (count-cons (λ y. p (f y)) x xs)

-- ---- one more

pub count-with : (test : (ℕ × ℕ) → Bool) (q : ℕ × ℕ) (pairs : List (ℕ × ℕ)) → count_by test (with_assignment q pairs) ≡ cond (test q) 1 0 + count_by test pairs
count-with test q [] = count-cons test q []
count-with test q (p ∷ pairs) =
    let rest = count-with test q pairs in
    cond_both (nat_lt q.0 p.0) (q ∷ p ∷ pairs) (p ∷ with_assignment q pairs) (λ l. count_by test l ≡ cond (test q) 1 0 + count_by test (p ∷ pairs))
    (λ before. count-cons test q (p ∷ pairs)) (λ behind. omega (arith, rest, count-cons test p (with_assignment q pairs), count-cons test p pairs))

pub length-with : (q : ℕ × ℕ) (pairs : List (ℕ × ℕ)) → length (with_assignment q pairs) ≡ length pairs + 1
length-with q [] = refl
length-with q (p ∷ pairs) =
    let rest = length-with q pairs in
    cond_both (nat_lt q.0 p.0) (q ∷ p ∷ pairs) (p ∷ with_assignment q pairs) (λ l. length l ≡ length (p ∷ pairs) + 1) (λ before. omega arith) (λ behind. omega (arith, rest))

-- ---- no assignment stands twice

pub once-with : (x y : ℕ) (pairs : List (ℕ × ℕ)) → list_any (is_pair x y) pairs ≡ false → ((a b : ℕ) → count_by (is_pair a b) pairs ≤ 1)
    → (a b : ℕ) → count_by (is_pair a b) (with_assignment (x, y) pairs) ≤ 1
once-with x y pairs free once a b = go (eqb x a) (eqb y b) refl refl (count-with (is_pair a b) (x, y) pairs) where
  none : count_by (is_pair x y) pairs ≤ 0
  none = ltb-false 0 (count_by (is_pair x y) pairs) (sym (any-count (is_pair x y) pairs) ∙ free)

  go : (c d : Bool) → eqb x a ≡ c → eqb y b ≡ d → count_by (is_pair a b) (with_assignment (x, y) pairs) ≡ cond (c && d) 1 0 + count_by (is_pair a b) pairs
      → count_by (is_pair a b) (with_assignment (x, y) pairs) ≤ 1
  go true true q r e =
      let here : count_by (is_pair a b) pairs ≤ 0 = rw (← eqb-true x a q, ← eqb-true y b r) none in
      omega (arith, e, here)
  go true false q r e = omega (arith, e, once a b)
  go false d q r e = omega (arith, e, once a b)

-- an assignment that stands, stands once
pub count-once : (x y : ℕ) (pairs : List (ℕ × ℕ)) → list_any (is_pair x y) pairs ≡ true → ((a b : ℕ) → count_by (is_pair a b) pairs ≤ 1) → count_by (is_pair x y) pairs ≡ 1
count-once x y pairs there once =
    let some = ltb-true 0 (count_by (is_pair x y) pairs) (sym (any-count (is_pair x y) pairs) ∙ there) in
    omega (arith, some, once x y)

-- how many pass a test, of the assignments that are left
pub count-left : (test keep : (ℕ × ℕ) → Bool) (pairs : List (ℕ × ℕ)) → count_by test (filter keep pairs) + count_by test (filter (λ p. not (keep p)) pairs) ≡ count_by test pairs
count-left test keep pairs = sum_by-filter_both keep (λ p. not (keep p)) (λ p. refl) (λ p. cond (test p) 1 0) pairs

-- ---- what one element is assigned to

pub containers-append : (pairs more : List (ℕ × ℕ)) (x : ℕ) → containers (pairs ++ more) x ≡ containers pairs x ++ containers more x
containers-append pairs more x =
    ap (map (λ (p : ℕ × ℕ). p.1)) (filter-append (λ (p : ℕ × ℕ). eqb p.0 x) pairs more)
    ∙ map-append (λ (p : ℕ × ℕ). p.1) (filter (λ (p : ℕ × ℕ). eqb p.0 x) pairs) (filter (λ (p : ℕ × ℕ). eqb p.0 x) more)

-- x is assigned to y exactly where y is among its containers
pub pair_among : (pairs : List (ℕ × ℕ)) (x y : ℕ) → list_any (is_pair x y) pairs ≡ list_any (λ z. eqb z y) (containers pairs x)
pair_among [] x y = refl
pair_among (p ∷ pairs) x y = go (eqb p.0 x) (pair_among pairs x y) where
  go : (b : Bool) → list_any (is_pair x y) pairs ≡ list_any (λ z. eqb z y) (containers pairs x)
      → ((b && eqb p.1 y) || list_any (is_pair x y) pairs) ≡ list_any (λ z. eqb z y) (map (λ (pair : ℕ × ℕ). pair.1) (cond b (p ∷ filter (λ (pair : ℕ × ℕ). eqb pair.0 x) pairs) (filter (λ (pair : ℕ × ℕ). eqb pair.0 x) pairs)))
  go true rest = rw rest refl
  go false rest = rest

-- what x is assigned to has something assigned to it
pub container_child : (pairs : List (ℕ × ℕ)) (x i w : ℕ) → slice_get (containers pairs x) i ≡ Some w → 0 < count_by (is_to w) pairs
container_child [] x i w h = cc
container_child (p ∷ pairs) x i w h = rw (count-cons (is_to w) p pairs) (go (eqb p.0 x) (eqb p.1 w) i refl refl (λ j. container_child pairs x j w) h) where
  go : (a b : Bool) (j : ℕ) → eqb p.0 x ≡ a → eqb p.1 w ≡ b → ((k : ℕ) → slice_get (containers pairs x) k ≡ Some w → 0 < count_by (is_to w) pairs)
      → slice_get (map (λ (pair : ℕ × ℕ). pair.1) (cond a (p ∷ filter (λ (pair : ℕ × ℕ). eqb pair.0 x) pairs) (filter (λ (pair : ℕ × ℕ). eqb pair.0 x) pairs))) j ≡ Some w
      → 0 < cond b 1 0 + count_by (is_to w) pairs
  go true true j q r rest h = omega arith
  go true false zero q r rest h = let same : p.1 ≡ w = cc in absurd (true≢false (sym (eq-eqb p.1 w same) ∙ r))
  go true false (suc j) q r rest h = rw zero-add (rest j h)
  go false true j q r rest h = omega arith
  go false false j q r rest h = rw zero-add (rest j h)
