-- Entries of keys and values, by their keys; what has names, by these as keys. The project's own.
use Rattle.std.specs.Prelude.{◌≡◌, ℕ, ◌+◌, Bool, List, [], ◌∷◌, map, get_or}
use Rattle.std.specs.Cmp.Lexicographic.{slice_cmp}
use Rattle.std.specs.Ordering.{is_eq, is_lt, nat_cmp, ordering_then}
use Rattle.std.specs.declared.cmp.Ordering.{Ordering}
use Rattle.pm_by_name.specs.declared.by_name.ByBytes.{ByBytes}
use Rattle.pm_policy.specs.Order.{sorted}
use Rattle.pm_policy.specs.declared.policy.DocElement.{DocElement}
use Rattle.pm_policy.specs.declared.policy.DocAssignment.{DocAssignment}
use Rattle.pm_policy.specs.declared.policy.DocAssociation.{DocAssociation}

-- ---- entries

-- the first key is below the second
abbrev pub goes_first : {K V : Type 0} → (K → K → Ordering) → K × V → K × V → Bool
goes_first cmp x y = is_lt (cmp x.0 y.0)

-- the keys are equal
abbrev pub has_key_of : {K V : Type 0} → (K → K → Ordering) → K × V → K × V → Bool
has_key_of cmp x y = is_eq (cmp x.0 y.0)

-- ---- places

-- the keys of the items are equal
abbrev pub have_one_key : {X K : Type 0} → (K → K → Ordering) → (X → K) → X → X → Bool
have_one_key cmp key x y = is_eq (cmp (key x) (key y))

-- the keys of the items with their places, from n on
abbrev pub places_from : {X K : Type 0} → (X → K) → ℕ → List X → List (K × ℕ)
places_from key n [] = []
places_from key n (x ∷ xs) = (key x, n) ∷ places_from key (n + 1) xs

-- the places of the items, by their keys
abbrev pub places_by : {X K : Type 0} → (K → K → Ordering) → (X → K) → List X → List ℕ
places_by {X = X} {K = K} cmp key xs = map (λ (e : K × ℕ). e.1) (sorted (goes_first cmp) (places_from key 0 xs))

-- the second list has the items of the first at these places
abbrev pub AreAt : {X : Type 0} → List X → List ℕ → List X → Type 0
AreAt {X = X} all places xs = (d : X) → xs ≡ map (λ k. get_or all k d) places

-- ---- names as keys

abbrev pub by_bytes : List ℕ → ByBytes
by_bytes name = record { name = name }

abbrev pub cmp_bytes : ByBytes → ByBytes → Ordering
cmp_bytes a b = slice_cmp nat_cmp a.name b.name

-- by the first name, then by the second
abbrev pub cmp_both : ByBytes × ByBytes → ByBytes × ByBytes → Ordering
cmp_both a b = ordering_then (cmp_bytes a.0 b.0) (cmp_bytes a.1 b.1)

abbrev pub element_key : DocElement → ByBytes
element_key e = by_bytes e.name

abbrev pub assignment_key : DocAssignment → ByBytes × ByBytes
assignment_key p = (by_bytes p.from, by_bytes p.to)

abbrev pub ends_key : DocAssociation → ByBytes × ByBytes
ends_key a = (by_bytes a.ua, by_bytes a.at)

-- the association at a place that there is
abbrev pub association_in : List DocAssociation → ℕ → DocAssociation
association_in all k = get_or all k (record { ua = []; rights = []; at = [] })
