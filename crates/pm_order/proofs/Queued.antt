-- Places in a queue.
use Rattle.std.proofs.Common.{◌≡◌, ◌≤◌, ◌<◌, ◌↔◌, ◌⊎◌, ◌∙◌, ℕ, Bool, true, false, List, [], ◌∷◌, length, map, get_or, Contains, inl, inr, sym, subst, arith}
use Rattle.std.specs.BinaryHeap.{IsUpperBound}
use Rattle.std.specs.List.Sorted.{IsPermutation}
use Rattle.std.specs.Ordering.{is_lt, nat_cmp}
use Rattle.std.proofs.lemmas.Bool.Decides.{nat_tests}
use Rattle.std.proofs.lemmas.List.Sorted.{length_permutation, Contains-permutation, IsPermutation-sym}
use Rattle.pm_laws.proofs.Items.{contains-cases, contains-first, contains-none, contains-rest}
use Rattle.pm_order.specs.Ranked.{IsTaken}

-- one place more
pub put-in : (k : ℕ) (old new : List ℕ) → IsPermutation (k ∷ old) new → (i : ℕ) → Contains new i ↔ (Contains old i ⊎ (k ≡ i))
put-in k old new h i = (to, from) where
  to : Contains new i → Contains old i ⊎ (k ≡ i)
  to c = elim (contains-cases k i old (Contains-permutation new (k ∷ old) i (IsPermutation-sym (k ∷ old) new h) c)) [ inl same ↦ inr same | inr further ↦ inl further ]

  from : Contains old i ⊎ (k ≡ i) → Contains new i
  from (inl c) = Contains-permutation (k ∷ old) new i h (contains-rest k i old c)
  from (inr same) = Contains-permutation (k ∷ old) new i h (subst (λ j. Contains (k ∷ old) j) same (contains-first k old))

not-less : (j k : ℕ) → is_lt (nat_cmp j k) ≡ false → k ≤ j
not-less j k h = grind (arith, nat_tests)

-- none is less than the one that comes out first
pub none-less : {X : Type 0} (place : X → ℕ) (x : X) (xs : List X) → IsUpperBound (λ a b. nat_cmp (place b) (place a)) x xs → (j : ℕ) → Contains (map place xs) j → place x ≤ j
none-less place x [] h j c = contains-none j c
none-less place x (y ∷ ys) h j c = elim (contains-cases (place y) j (map place ys) c) [
  | inl same ↦ subst (λ i. place x ≤ i) same (not-less (place y) (place x) h.0)
  | inr further ↦ none-less place x ys h.1 j further
]

pub fewer : (k : ℕ) (old new : List ℕ) → IsPermutation old (k ∷ new) → length new < length old
fewer k old new h = let same = length_permutation old (k ∷ new) h in omega (arith, same)

-- of those that stood there at the start, these are left; the next comes out
module _ (made : List Bool) (start left : List ℕ) (kept : (i : ℕ) → Contains start i → get_or made i false ≡ false → Contains left i) (k : ℕ) (rest : List ℕ) (out : IsPermutation left (k ∷ rest)) where
  or-rest : (i : ℕ) → Contains start i → get_or made i false ≡ false → (k ≡ i) ⊎ Contains rest i
  or-rest i c un = contains-cases k i rest (Contains-permutation left (k ∷ rest) i out (kept i c un))

  still : (i : ℕ) → Contains (k ∷ rest) i → Contains left i
  still i c = Contains-permutation (k ∷ rest) left i (IsPermutation-sym left (k ∷ rest) out) c

  pub rest-within : ((i : ℕ) → Contains left i → Contains start i) → (i : ℕ) → Contains rest i → Contains start i
  rest-within within i c = within i (still i (contains-rest k i rest c))

  pub passed : get_or made k false ≡ true → (i : ℕ) → Contains start i → get_or made i false ≡ false → Contains rest i
  passed is i c un = elim (or-rest i c un) [
    | inl same ↦ absurd (let both : true ≡ false = sym is ∙ subst (λ j. get_or made j false ≡ false) (sym same) un in cc)
    | inr further ↦ further
  ]

  pub taken : ((i : ℕ) → Contains left i → Contains start i) → ((j : ℕ) → Contains rest j → k ≤ j) → get_or made k false ≡ false → IsTaken k made start rest
  taken within below un = record {
    there = within k (still k (contains-first k rest));
    unmade = un;
    least = λ i c u. elim (or-rest i c u) [ inl same ↦ omega (arith, same) | inr further ↦ below i further ];
    kept = or-rest;
    within = rest-within within;
  }
