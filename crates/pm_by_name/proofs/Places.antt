-- The places of items, sorted by the items' keys.
use Rattle.std.proofs.Common.{zero, suc, ◌≡◌, ◌<◌, ◌≤◌, ◌+◌, ◌-◌, ℕ, Bool, List, [], ◌∷◌, ◌++◌, length, map, take, drop, get_or, Contains, inl, inr, refl, sym, ◌∙◌, ap, subst, arith}
use Rattle.std.specs.List.{list_any, range_with_len}
use Rattle.std.specs.BTreeMap.{insert_entry}
use Rattle.std.specs.Ordering.{is_lt}
use Rattle.std.specs.declared.cmp.Ordering.{Ordering}
use Rattle.std.proofs.lemmas.List.{get_or_default, map_more}
use Rattle.std.proofs.lemmas.List.Elements.{Contains-get_or}
use Rattle.pm_laws.proofs.Items.{contains-cases, contains-none}
use Rattle.pm_policy.specs.Order.{sorted}
use Rattle.pm_policy.specs.Sound.{AreOnce}
use Rattle.pm_policy.proofs.Ordered.{map-contains}
use Rattle.pm_policy.proofs.Sorted.{has-sorted}
use Rattle.pm_by_name.specs.Keyed.{goes_first, has_key_of, have_one_key, places_by, places_from}
use Rattle.pm_by_name.proofs.Keyed.{entries-none, entries-step, entries-whole, sorted-map}

map-map : {X Y Z : Type 0} (f : X → Y) (g : Y → Z) (xs : List X) → map g (map f xs) ≡ map (λ x. g (f x)) xs
map-map f g [] = refl
map-map f g (x ∷ xs) = ap (λ l. g (f x) ∷ l) (map-map f g xs)

-- tests that say the same
module _ {X : Type 0} (a b : X → X → Bool) (same : (x y : X) → b x y ≡ a x y) where
  any-same : (x : X) (ys : List X) → list_any (b x) ys ≡ list_any (a x) ys
  any-same x [] = refl
  any-same x (y ∷ ys) = rw (same x y, any-same x ys) refl

  pub once_same : (xs : List X) → AreOnce a xs → AreOnce b xs
  once_same [] h = tt
  once_same (x ∷ xs) h = (any-same x xs ∙ h.0, once_same xs h.1)

-- ---- the items at the places

-- the places are within the list
abbrev pub AreWithin : {X : Type 0} → List X → List ℕ → Type 0
AreWithin all places = (k : ℕ) → Contains places k → k < length all

module _ {X : Type 0} (all : List X) (places : List ℕ) (i : ℕ) where
  pub place-within : AreWithin all places → i < length places → get_or places i 0 < length all
  place-within within below = within (get_or places i 0) (Contains-get_or places i 0 below)

  -- one place more
  pub at_more : (d x : X) (old new : List X) → AreWithin all places → i < length places → x ≡ get_or all (get_or places i 0) x →
      old ≡ map (λ k. get_or all k d) (take i places) → new ≡ old ++ x ∷ [] → new ≡ map (λ k. get_or all k d) (take (i + 1) places)
  at_more d x old new within below is before pushed =
      let this : x ≡ get_or all (get_or places i 0) d = is ∙ get_or_default all (get_or places i 0) x d (place-within within below) in
      pushed ∙ ap (λ (y : X). old ++ y ∷ []) this ∙ ap (λ l. l ++ get_or all (get_or places i 0) d ∷ []) before
      ∙ sym (map_more (λ k. get_or all k d) places i 0 below)

-- ---- the places by the keys

-- the items of all from place n on are these
abbrev StandFrom : {X : Type 0} → X → List X → ℕ → List X → Type 0
StandFrom d all n xs = (k : ℕ) → k < length xs → get_or all (n + k) d ≡ get_or xs k d

module _ {X K : Type 0} (cmp : K → K → Ordering) (key : X → K) where
  any-from : (x : X) (m n : ℕ) (xs : List X) → list_any (has_key_of cmp (key x, m)) (places_from key n xs) ≡ list_any (have_one_key cmp key x) xs
  any-from x m n [] = refl
  any-from x m n (y ∷ ys) = rw (any-from x m (n + 1) ys) refl

  from-once : (n : ℕ) (xs : List X) → AreOnce (have_one_key cmp key) xs → AreOnce (has_key_of cmp) (places_from key n xs)
  from-once n [] h = tt
  from-once n (x ∷ xs) h = (any-from x n (n + 1) xs ∙ h.0, from-once (n + 1) xs h.1)

  places_once : (xs : List X) → AreOnce (have_one_key cmp key) xs → AreOnce (has_key_of cmp) (places_from key 0 xs)
  places_once xs once = from-once 0 xs once

  from-below : (n : ℕ) (xs : List X) (e : K × ℕ) → Contains (places_from key n xs) e → e.1 < n + length xs
  from-below n [] e c = contains-none e c
  from-below n (x ∷ xs) e c = elim (contains-cases (key x, n) e (places_from key (n + 1) xs) c) [
    | inl same ↦ subst (λ (y : K × ℕ). y.1 < n + length (x ∷ xs)) same (omega arith)
    | inr below ↦ let rest = from-below (n + 1) xs e below in omega (arith, rest)
  ]

  pub places_below : (xs : List X) (k : ℕ) → Contains (places_by cmp key xs) k → k < length xs
  places_below xs k c =
      let p = map-contains (λ (e : K × ℕ). e.1) (sorted (goes_first cmp) (places_from key 0 xs)) k c in
      let low = from-below 0 xs p.0 (has-sorted (goes_first cmp) (places_from key 0 xs) p.0 p.1) in
      subst (λ i. i < length xs) p.2 (omega (arith, low))

  from-length : (n : ℕ) (xs : List X) → length (places_from key n xs) ≡ length xs
  from-length n [] = refl
  from-length n (x ∷ xs) = ap suc (from-length (n + 1) xs)

  from-at : (n : ℕ) (xs : List X) (i m : ℕ) (d : X) (e : K × ℕ) → i < length xs → n + i ≡ m → get_or (places_from key n xs) i e ≡ (key (get_or xs i d), m)
  from-at n [] i m d e below is = absurd (omega (arith, below))
  from-at n (x ∷ xs) zero m d e below is = ap (λ (k : ℕ). (key x, k)) (omega (arith, is))
  from-at n (x ∷ xs) (suc i) m d e below is = from-at (n + 1) xs i m d e (omega (arith, below)) (omega (arith, is))

  -- ---- into a map, from the last place on

  module _ (xs : List X) where
    -- the first k that go in, sorted
    abbrev pub last_sorted : ℕ → List (K × ℕ)
    last_sorted k = sorted (goes_first cmp) (drop (length xs - k) (places_from key 0 xs))

    last-is : (k : ℕ) → sorted (goes_first cmp) (drop (length (places_from key 0 xs) - k) (places_from key 0 xs)) ≡ last_sorted k
    last-is k = ap (λ m. sorted (goes_first cmp) (drop (m - k) (places_from key 0 xs))) (from-length 0 xs)

    pub places-none : last_sorted 0 ≡ []
    places-none = sym (last-is 0) ∙ entries-none cmp (places_from key 0 xs)

    pub places-step : (k : ℕ) (x : X) (t : K) (old new : List (K × ℕ)) → AreOnce (have_one_key cmp key) xs → k < length xs →
        x ≡ get_or xs (length xs - 1 - k) x → t ≡ key x → old ≡ last_sorted k → new ≡ insert_entry cmp old t (length xs - 1 - k) → new ≡ last_sorted (k + 1)
    places-step k x t old new once below is is_key before inserted_is =
        let i = length xs - 1 - k in
        let e : K × ℕ = (t, i) in
        let size = from-length 0 xs in
        let there : e ≡ get_or (places_from key 0 xs) i e = ap (λ (u : K). (u, i)) (is_key ∙ ap key is) ∙ sym (from-at 0 xs i i x e (omega (arith, below)) (omega arith)) in
        entries-step cmp (places_from key 0 xs) k e old new (places_once xs once) (omega (arith, below, size))
        (there ∙ sym (ap (λ m. get_or (places_from key 0 xs) (m - 1 - k) e) size)) (before ∙ sym (last-is k)) inserted_is
        ∙ last-is (k + 1)

    pub places-whole : (k : ℕ) (old : List (K × ℕ)) → length xs ≤ k → old ≡ last_sorted k → old ≡ sorted (goes_first cmp) (places_from key 0 xs)
    places-whole k old past is =
        let size = from-length 0 xs in entries-whole cmp (places_from key 0 xs) k old (omega (arith, past, size)) (is ∙ sym (last-is k))

  -- the items at the places are sorted by what the keys tell
  module _ (before : X → X → Bool) (less : (x y : X) → before x y ≡ is_lt (cmp (key x) (key y))) (d : X) where
    stand-rest : (all : List X) (n : ℕ) (x : X) (xs : List X) → StandFrom d all n (x ∷ xs) → StandFrom d all (n + 1) xs
    stand-rest all n x xs h k below = subst (λ m. get_or all m d ≡ get_or xs k d) (omega arith) (h (suc k) (omega (arith, below)))

    stand-first : (all : List X) (n : ℕ) (x : X) (xs : List X) → StandFrom d all n (x ∷ xs) → get_or all n d ≡ x
    stand-first all n x xs h = subst (λ m. get_or all m d ≡ x) (omega arith) (h 0 (omega arith))

    from-items : (all : List X) (n : ℕ) (xs : List X) → StandFrom d all n xs → map (λ (e : K × ℕ). get_or all e.1 d) (places_from key n xs) ≡ xs
    from-items all n [] h = refl
    from-items all n (x ∷ xs) h = let first = stand-first all n x xs h in let rest = from-items all (n + 1) xs (stand-rest all n x xs h) in cc

    from-keys : (all : List X) (n : ℕ) (xs : List X) → StandFrom d all n xs → (e : K × ℕ) → Contains (places_from key n xs) e → e.0 ≡ key (get_or all e.1 d)
    from-keys all n [] h e c = contains-none e c
    from-keys all n (x ∷ xs) h e c = elim (contains-cases (key x, n) e (places_from key (n + 1) xs) c) [
      | inl same ↦ subst (λ (y : K × ℕ). y.0 ≡ key (get_or all y.1 d)) same (ap key (sym (stand-first all n x xs h)))
      | inr below ↦ from-keys all (n + 1) xs (stand-rest all n x xs h) e below
    ]

    pub places_sorted : (xs : List X) → map (λ k. get_or xs k d) (places_by cmp key xs) ≡ sorted before xs
    places_sorted xs =
        map-map (λ (e : K × ℕ). e.1) (λ k. get_or xs k d) (sorted (goes_first cmp) (places_from key 0 xs))
        ∙ sorted-map (λ (e : K × ℕ). get_or xs e.1 d) (goes_first cmp) before (places_from key 0 xs)
        (λ e f c k. ap (λ t. is_lt (cmp t f.0)) (keys e c) ∙ ap (λ t. is_lt (cmp (key (get_or xs e.1 d)) t)) (keys f k)
        ∙ sym (less (get_or xs e.1 d) (get_or xs f.1 d)))
        ∙ ap (λ l. sorted before l) (from-items xs 0 xs all) where
          all : StandFrom d xs 0 xs
          all k below = ap (λ i. get_or xs i d) (omega arith)

          keys : (e : K × ℕ) → Contains (places_from key 0 xs) e → e.0 ≡ key (get_or xs e.1 d)
          keys e c = from-keys xs 0 xs all e c

-- ---- all places, in their order

range-from : {X : Type 0} (d : X) (all : List X) (n : ℕ) (xs : List X) → StandFrom d all n xs → map (λ k. get_or all k d) (range_with_len n (length xs)) ≡ xs
range-from d all n [] h = refl
range-from d all n (x ∷ xs) h =
    let this : get_or all n d ≡ x = subst (λ m. get_or all m d ≡ x) (omega arith) (h 0 (omega arith)) in
    let rest = range-from d all (n + 1) xs (λ k below. subst (λ m. get_or all m d ≡ get_or xs k d) (omega arith) (h (suc k) (omega (arith, below)))) in
    ap (λ y. y ∷ map (λ k. get_or all k d) (range_with_len (n + 1) (length xs))) this ∙ ap (λ l. x ∷ l) rest

pub all-there : {X : Type 0} (xs : List X) (d : X) → map (λ k. get_or xs k d) (range_with_len 0 (length xs)) ≡ xs
all-there xs d = range-from d xs 0 xs (λ k below. ap (λ i. get_or xs i d) (let e : 0 + k ≡ k = omega arith in e))

range-below : (a n k : ℕ) → Contains (range_with_len a n) k → k < a + n
range-below a zero k c = contains-none k c
range-below a (suc n) k c = elim (contains-cases a k (range_with_len (a + 1) n) c) [
  | inl same ↦ omega (arith, same)
  | inr below ↦ let rest = range-below (a + 1) n k below in omega (arith, rest)
]

pub all-below : (n k : ℕ) → Contains (range_with_len 0 n) k → k < n
all-below n k c = let below = range-below 0 n k c in omega (arith, below)

range-next : (a n : ℕ) → range_with_len a n ++ (a + n) ∷ [] ≡ range_with_len a (suc n)
range-next a zero = ap (λ k. k ∷ []) (omega arith)
range-next a (suc n) =
    ap (λ k. a ∷ range_with_len (a + 1) n ++ k ∷ []) (let e : a + suc n ≡ (a + 1) + n = omega arith in e) ∙ ap (λ l. a ∷ l) (range-next (a + 1) n)

pub one-place-more : (n : ℕ) → range_with_len 0 n ++ n ∷ [] ≡ range_with_len 0 (n + 1)
one-place-more n =
    ap (λ k. range_with_len 0 n ++ k ∷ []) (let e : n ≡ 0 + n = omega arith in e) ∙ range-next 0 n
    ∙ ap (λ k. range_with_len 0 k) (let e : suc n ≡ n + 1 = omega arith in e)
