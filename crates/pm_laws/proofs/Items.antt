-- The items of a list: what each of them keeps, which stand in it, and which one a test finds.
use Rattle.std.proofs.Common.{◌≡◌, ◌≤◌, zero, suc, ℕ, List, [], ◌∷◌, ◌++◌, length, map, Option, Some, None, IsSome, Bool, true, false, refl, subst, filter, Contains, ◌⊎◌, inl, inr, arith}
use Rattle.std.specs.List.{list_any, find, remove, slice_get, All}
use Rattle.std.proofs.lemmas.Bool.{cond_both, false_from_ne_true, or_cases, or_left, or_right}
use Rattle.std.proofs.lemmas.List.Elements.{All-nil, All-cons, Contains-append_cases, Contains-append_right, Contains-push_cases}
use Rattle.pm_model.specs.Formed.{Each}

-- ---- which items stand in a list

module _ {X : Type 0} where
  pub contains-first : (x : X) (xs : List X) → Contains (x ∷ xs) x
  contains-first x xs = (0, omega arith, refl)

  pub contains-rest : (x y : X) (xs : List X) → Contains xs y → Contains (x ∷ xs) y
  contains-rest x y xs c = Contains-append_right (x ∷ []) xs y c

  pub contains-cases : (x y : X) (xs : List X) → Contains (x ∷ xs) y → (x ≡ y) ⊎ Contains xs y
  contains-cases x y xs c = elim (Contains-append_cases (x ∷ []) xs y c) [ inl a ↦ inl (only a) | inr b ↦ inr b ] where
    only : Contains (x ∷ []) y → x ≡ y
    only (zero, below, is) = is
    only (suc k, below, is) = absurd (omega (arith, below))

  pub contains-none : {A : Type 0} (x : X) → Contains [] x → A
  contains-none x c = absurd (omega (arith, c.1))

module _ {X : Type 0} (test : X → Bool) where
  -- ---- what a filter keeps

  pub filter-split : (P : List X → Type 0) (x : X) (xs : List X) → (test x ≡ true → P (x ∷ filter test xs)) →
      (test x ≡ false → P (filter test xs)) → P (filter test (x ∷ xs))
  filter-split P x xs = cond_both (test x) (x ∷ filter test xs) (filter test xs) P

  -- what passes the test stays
  pub contains-filter : (xs : List X) (y : X) → Contains xs y → test y ≡ true → Contains (filter test xs) y
  contains-filter [] y c passes = contains-none y c
  contains-filter (x ∷ xs) y c passes = filter-split (λ kept. Contains kept y) x xs
      (λ is. elim (contains-cases x y xs c) [
        | inl same ↦ rw same (contains-first y (filter test xs))
        | inr below ↦ contains-rest x y (filter test xs) (contains-filter xs y below passes)
      ])
      (λ is. elim (contains-cases x y xs c) [
        | inl same ↦ absurd (let no : test y ≡ false = rw same at is in cc)
        | inr below ↦ contains-filter xs y below passes
      ])

  -- and nothing else is there
  pub filter-contains : (xs : List X) (y : X) → Contains (filter test xs) y → Contains xs y × (test y ≡ true)
  filter-contains [] y = λ c. contains-none y c
  filter-contains (x ∷ xs) y = filter-split (λ kept. Contains kept y → Contains (x ∷ xs) y × (test y ≡ true)) x xs
      (λ is c. elim (contains-cases x y (filter test xs) c) [
        | inl same ↦ (rw (← same) (contains-first x xs), rw (← same) is)
        | inr below ↦ further (filter-contains xs y below)
      ])
      (λ is c. further (filter-contains xs y c)) where
        further : Contains xs y × (test y ≡ true) → Contains (x ∷ xs) y × (test y ≡ true)
        further p = (contains-rest x y xs p.0, p.1)

  pub length-filter : (xs : List X) → length (filter test xs) ≤ length xs
  length-filter [] = omega arith
  length-filter (x ∷ xs) = let rest = length-filter xs in
      filter-split (λ kept. length kept ≤ length (x ∷ xs)) x xs (λ is. omega (arith, rest)) (λ is. omega (arith, rest))

  -- ---- whether the test finds an item, and which

  pub any-from : (xs : List X) (y : X) → Contains xs y → test y ≡ true → list_any test xs ≡ true
  any-from [] y c passes = contains-none y c
  any-from (x ∷ xs) y c passes = elim (contains-cases x y xs c) [
    | inl same ↦ or_left (test x) (list_any test xs) (rw same passes)
    | inr below ↦ or_right (test x) (list_any test xs) (any-from xs y below passes)
  ]

  pub any-found : (xs : List X) → list_any test xs ≡ true → (y : X) × Contains xs y × (test y ≡ true)
  any-found [] h = absurd (cc)
  any-found (x ∷ xs) h = elim (or_cases (test x) (list_any test xs) h) [
    | inl is ↦ (x, contains-first x xs, is)
    | inr below ↦ let p = any-found xs below in (p.0, contains-rest x p.0 xs p.1, p.2)
  ]

  pub none-at : (xs : List X) (y : X) → list_any test xs ≡ false → Contains xs y → test y ≡ false
  none-at xs y none c = false_from_ne_true (test y) (λ is. let found = any-from xs y c is in cc)

  pub none-from : (xs : List X) → ((y : X) → Contains xs y → test y ≡ false) → list_any test xs ≡ false
  none-from xs each = false_from_ne_true (list_any test xs) (λ is.
      let p = any-found xs is in
      let no = each p.0 p.1 in
      let yes = p.2 in cc)

  find-split : (P : Option X → Type 0) (x : X) (xs : List X) → (test x ≡ true → P (Some x)) →
      (test x ≡ false → P (find test xs)) → P (find test (x ∷ xs))
  find-split P x xs = cond_both (test x) (Some x) (find test xs) P

  pub find-found : (xs : List X) (y : X) → find test xs ≡ Some y → Contains xs y × (test y ≡ true)
  find-found [] y = λ h. absurd (cc)
  find-found (x ∷ xs) y = find-split (λ found. found ≡ Some y → Contains (x ∷ xs) y × (test y ≡ true)) x xs
      (λ is h. let same : x ≡ y = cc in (rw same (contains-first y xs), rw (← same) is))
      (λ is h. let p = find-found xs y h in (contains-rest x y xs p.0, p.1))

  pub find-some : (xs : List X) (y : X) → Contains xs y → test y ≡ true → (z : X) × (find test xs ≡ Some z)
  find-some [] y c passes = contains-none y c
  find-some (x ∷ xs) y c passes = find-split (λ found. (z : X) × (found ≡ Some z)) x xs
      (λ is. (x, refl))
      (λ is. elim (contains-cases x y xs c) [
        | inl same ↦ absurd (let no : test y ≡ false = rw same at is in cc)
        | inr below ↦ find-some xs y below passes
      ])

  -- ---- what is found stays found

  pub find-is : (xs : List X) → IsSome (find test xs) → (y : X) × (find test xs ≡ Some y)
  find-is xs h = of (find test xs) refl h where
    of : (o : Option X) → find test xs ≡ o → IsSome o → (y : X) × (find test xs ≡ Some y)
    of (Some y) is h = (y, is)
    of None is h = absurd (cc)

  pub find-live : (xs : List X) (y : X) → find test xs ≡ Some y → IsSome (find test xs)
  find-live xs y h = rw h refl

  pub find-any : (xs : List X) → list_any test xs ≡ true → IsSome (find test xs)
  find-any xs h = let p = any-found xs h in let q = find-some xs p.0 p.1 p.2 in find-live xs q.0 q.1

  pub find-push : (xs : List X) (x y : X) → find test xs ≡ Some y → find test (xs ++ x ∷ []) ≡ Some y
  find-push [] x y = λ h. absurd (cc)
  find-push (a ∷ xs) x y = cond_both (test a) (Some a) (find test xs) (λ found. found ≡ Some y → find test ((a ∷ xs) ++ x ∷ []) ≡ Some y)
      (λ is h. rw is h)
      (λ is h. rw is (find-push xs x y h))

  -- where the others go
  pub find-filter : (keep : X → Bool) (xs : List X) (y : X) → find test xs ≡ Some y → keep y ≡ true → find test (filter keep xs) ≡ Some y
  find-filter keep [] y = λ h. absurd (cc)
  find-filter keep (x ∷ xs) y =
      find-split (λ found. found ≡ Some y → keep y ≡ true → find test (filter keep (x ∷ xs)) ≡ Some y) x xs
      (λ is h kept. let same : x ≡ y = cc in rw (same, kept, (rw same at is)) refl)
      (λ is h kept. let rest = find-filter keep xs y h kept in
      cond_both (keep x) (x ∷ filter keep xs) (filter keep xs) (λ l. find test l ≡ Some y) (λ stays. rw is rest) (λ goes. rest))

pub any-map : {X Y : Type 0} (test : Y → Bool) (f : X → Y) (xs : List X) (x : X) → Contains xs x → test (f x) ≡ true →
    list_any test (map f xs) ≡ true
any-map test f [] x c passes = contains-none x c
any-map test f (y ∷ xs) x c passes = elim (contains-cases y x xs c) [
  | inl same ↦ or_left (test (f y)) (list_any test (map f xs)) (rw same passes)
  | inr below ↦ or_right (test (f y)) (list_any test (map f xs)) (any-map test f xs x below passes)
]

-- what a removal leaves
pub contains-removed : {X : Type 0} (xs : List X) (i : ℕ) (y : X) → Contains (remove xs i) y → Contains xs y
contains-removed [] zero y c = c
contains-removed [] (suc i) y c = c
contains-removed (x ∷ xs) zero y c = contains-rest x y xs c
contains-removed (x ∷ xs) (suc i) y c = elim (contains-cases x y (remove xs i) c) [
  | inl same ↦ rw same (contains-first y xs)
  | inr below ↦ contains-rest x y xs (contains-removed xs i y below)
]

-- what stands at a place is in the list
pub get-contains : {X : Type 0} (xs : List X) (i : ℕ) (x : X) → slice_get xs i ≡ Some x → Contains xs x
get-contains [] i x h = absurd (cc)
get-contains (y ∷ xs) zero x h = let same : y ≡ x = cc in rw same (contains-first x xs)
get-contains (y ∷ xs) (suc i) x h = contains-rest y x xs (get-contains xs i x h)

-- ---- a fact of each item

module _ {X : Type 0} (P : X → Type 0) where
  pub each-at : (xs : List X) (y : X) → Each P xs → Contains xs y → P y
  each-at [] y h c = contains-none y c
  each-at (x ∷ xs) y h c = elim (contains-cases x y xs c) [ inl same ↦ subst P same h.0 | inr below ↦ each-at xs y h.1 below ]

  pub each-from : (xs : List X) → ((y : X) → Contains xs y → P y) → Each P xs
  each-from [] h = tt
  each-from (x ∷ xs) h = (h x (contains-first x xs), each-from xs (λ y c. h y (contains-rest x y xs c)))

  pub each-push : (xs : List X) (y : X) → Each P xs → P y → Each P (xs ++ y ∷ [])
  each-push xs y h p =
      each-from (xs ++ y ∷ []) (λ x c. elim (Contains-push_cases xs y x c) [ inl old ↦ each-at xs x h old | inr new ↦ subst P new p ])

  pub each-filter : (test : X → Bool) (xs : List X) → Each P xs → Each P (filter test xs)
  each-filter test xs h = each-from (filter test xs) (λ x c. each-at xs x h (filter-contains test xs x c).0)

pub each-to : {X : Type 0} (P Q : X → Type 0) → ((x : X) → P x → Q x) → (xs : List X) → Each P xs → Each Q xs
each-to P Q f [] h = tt
each-to P Q f (x ∷ xs) h = (f x h.0, each-to P Q f xs h.1)

pub each-map : {X Y : Type 0} (P : Y → Type 0) (f : X → Y) (xs : List X) → Each (λ x. P (f x)) xs → Each P (map f xs)
each-map P f [] h = tt
each-map P f (x ∷ xs) h = (h.0, each-map P f xs h.1)

pub each-append : {X : Type 0} (P : X → Type 0) (xs ys : List X) → Each P xs → Each P ys → Each P (xs ++ ys)
each-append P [] ys h k = k
each-append P (x ∷ xs) ys h k = (h.0, each-append P xs ys h.1 k)

-- the same fact by index
pub each-all : {X : Type 0} (P : X → Type 0) (xs : List X) → Each P xs → All P xs
each-all P [] h = All-nil P
each-all P (x ∷ xs) h = All-cons P x xs h.0 (each-all P xs h.1)
